-- The laws of a row that is put into a bank.
mod Rows
