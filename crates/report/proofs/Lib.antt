-- Laws of the report's outcome by the room that there is.
mod Reported
