mod Bodies
mod Definition
mod Expressions
mod File
pub mod Lists
mod Marks
mod Names
pub mod Trees
mod Uses
