-- The late job with the least deadline, as it is held from row to row.
use Rattle.std.specs.Prelude.{ℕ, ◌&&◌, ◌||◌, ltb, eqb, if◌then◌else◌, Option, Some, None}
use Rattle.rules.specs.Dispatch.{Job}
use Rattle.rules.specs.declared.Late.{Late}

-- what is held of a job
abbrev pub late_of : Job → Late
late_of j = record { task = j.task; job = j.number; deadline = j.deadline }

-- what is held of the late job, if there is one
abbrev pub lateness : Option Job → Option Late
lateness None = None
lateness (Some j) = Some (late_of j)

-- one row more: of a job that finishes at f
abbrev pub noting : Option Late → Late → ℕ → Option Late
noting None j f = if ltb j.deadline f then Some j else None
noting (Some i) j f =
    if ltb j.deadline f then (if ltb j.deadline i.deadline || (eqb j.deadline i.deadline && ltb j.task i.task) then Some j else Some i) else Some i
