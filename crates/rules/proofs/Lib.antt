-- Laws about the definitions.
-- tests, searches, tables and refusals
pub mod Booleans
pub mod Search
pub mod Tables
pub mod Refused
pub mod Calls
pub mod Untouched
pub mod TableSteps
-- the dispatcher: what it picks, its runs, its rules, and that they leave one list of rows
pub mod Order
pub mod Taken
pub mod Legal
pub mod Picked
pub mod Runs
pub mod Dispatcher
pub mod LateJob
pub mod Determined
pub mod Choosing
pub mod RowWords
-- trains of jobs, and the blocker
pub mod TaskTrains
pub mod TasksFrom
pub mod Trains
pub mod Members
pub mod Planned
pub mod Blockers
-- demand 3: the verdict's three lines, meets, misses, the least length, the excess
pub mod Verdicts
pub mod Loads
pub mod Meets
pub mod Overfull
pub mod Misses
pub mod BelowTheSpan
pub mod Excess
-- the walk over the tasks and the two looks, as code makes them
pub mod TasksLeft
pub mod LongestWait
pub mod Looks
-- the text, read and written
pub mod Slices
pub mod Digits
pub mod ReadSteps
pub mod ReadSets
pub mod WriteSteps
pub mod LineTrips
pub mod SetTrips
pub mod Reading
-- sheets
pub mod Records
pub mod FieldSteps
pub mod RowSteps
pub mod SheetGrammar
pub mod SheetNames
pub mod SheetRecords
pub mod SheetReading
pub mod SheetWriting
pub mod SheetTrips
pub mod HeaderSteps
-- how long texts and sheets can be, and the calls where there is room enough
pub mod TextLengths
pub mod Rooms
-- the report and the program's output
pub mod Printed
pub mod Lengths
-- the sets drawn from a seed
pub mod Drawn
pub mod DrawnFine
pub mod DrawnSets
pub mod LongKernel
pub mod DrawnTexts
-- the starred sets
pub mod Stars
