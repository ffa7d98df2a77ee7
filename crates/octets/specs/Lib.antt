pub mod Ascii
pub mod Class
pub mod Text
pub mod Splice
pub mod Number
pub mod Decimal
