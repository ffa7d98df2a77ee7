pub mod Encoding
pub mod Rfc7159
pub mod Text
pub mod Placing
pub mod inner
