pub mod Requests
pub mod LinesOutput
pub mod ExplanationParts
