pub mod Leaves
pub mod Shapes
pub mod Valid
pub mod Steps
pub mod Drafts
pub mod Marks
