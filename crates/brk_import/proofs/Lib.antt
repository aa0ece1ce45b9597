pub mod Called
pub mod Settled
pub mod Under
pub mod SentAgain
