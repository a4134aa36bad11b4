pub mod IdParts
pub mod SplitOrder
pub mod Shapes
pub mod SlimForms
pub mod KeptStates
pub mod Coverings
pub mod OneFold
pub mod Advancing
