-- What the code hands on of a field: the bytes between its quotes. For the contracts of the code alone; no sentence of a document has it.
use Rattle.rules.specs.Sheet.{Field, content, no_field, Step, more, last, no_step}
use Rattle.rules.specs.Sheets.{doubled}

-- a field that was read, as it stands between its quotes: its content with each quote doubled
unfoldable pub standing : Field → Field
standing (content c s) = content (doubled c) s
standing no_field = no_field

-- so too the next field of a record
unfoldable pub standing_step : Step → Step
standing_step (more c s) = more (doubled c) s
standing_step (last c s) = last (doubled c) s
standing_step no_step = no_step
