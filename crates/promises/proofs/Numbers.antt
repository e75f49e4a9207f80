-- Demand 2: each call tells and leaves what the paper's tables say.
use Rattle.rules.specs.Text.{write_set}
use Rattle.rules.specs.Sheet.{write_sheet}
use Rattle.rules.proofs.Printed.{output_long}
use Rattle.rules.proofs.WriteSteps.{sample_text}
use Rattle.rules.proofs.SheetTrips.{sample_sheet}
use Rattle.promises.specs.Demands.{PaperNumbers, Bytes, SheetBytes}
use Rattle.promises.proofs.Texts.{reader_tells, writer_tells, report_tells}
use Rattle.promises.proofs.Judged.{judge_tells, first_tells}
use Rattle.promises.proofs.Shown.{schedule_tells, pattern_tells}
use Rattle.promises.proofs.Printing.{prints}
use Rattle.promises.proofs.Seeded.{draw_tells, set_tells}
use Rattle.promises.proofs.Sheets.{sheet_tells}

pub paper_numbers : PaperNumbers
paper_numbers = record {
  reading = reader_tells;
  writing = writer_tells write_set;
  scheduling = schedule_tells;
  judging = judge_tells;
  showing = pattern_tells;
  first = first_tells;
  reporting = report_tells;
  too_long = output_long;
  printing = prints;
  drawing = draw_tells;
  drawing_set = set_tells;
  reading_sheet = sheet_tells;
  writing_sheet = writer_tells write_sheet;
}

pub sample : Bytes
sample = sample_text

pub sample_of_sheets : SheetBytes
sample_of_sheets = sample_sheet
