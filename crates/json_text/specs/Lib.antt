pub mod Rfc7159
pub mod Values
pub mod Verdict
pub mod Places
pub mod inner
