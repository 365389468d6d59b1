-- What the bytes of a program mean. Read in this order.
pub mod Grid
pub mod Shapes
pub mod Table
