-- What the program prints. Read in this order.
pub mod Written
pub mod Answer
