-- Laws of the rows of an input.
mod WholeRows
