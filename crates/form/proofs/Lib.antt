pub mod Names
pub mod SyntaxText
pub mod Inverse
pub mod Grammar
pub mod Shapes
