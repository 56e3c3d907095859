pub mod Names
pub mod Cuts
pub mod Operands
pub mod Numbers
pub mod Forms
pub mod Directives
pub mod Instructions
pub mod Said
