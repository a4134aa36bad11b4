pub mod Attributes
pub mod Elements
pub mod Escapes
pub mod Styles
pub mod Svg
pub mod Places
pub mod Dots
