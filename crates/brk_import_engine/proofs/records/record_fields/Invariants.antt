use Rattle.std.proofs.Common.{◌≡◌, ◌-◌, length, map, take, vec_len}
use Rattle.csv.specs.Records.{fields_of}
use Rattle.brk_import_engine.proofs.records.record_fields.Given as goal

-- the fields so far
abbrev pub invariant-loop-field : goal.invariant-loop-field
invariant-loop-field l = map (λ f. f.now) l.all.items ≡ take (vec_len l.all) (fields_of l.row)

abbrev pub decreases-loop-field : goal.decreases-loop-field
decreases-loop-field l = length (fields_of l.row) - vec_len l.all
