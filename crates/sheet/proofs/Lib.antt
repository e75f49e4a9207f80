-- Laws of what a header and the records after it tell of a sheet.
mod Headed
