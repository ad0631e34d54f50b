-- what a line says, over the code's forms
pub mod Forms
