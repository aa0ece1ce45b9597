pub mod HoldingTexts
