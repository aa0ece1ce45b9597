use Rattle.std.proofs.Common.{rules, ◌≡◌, ℕ, ◌+◌, ◌-◌, ◌*◌, ◌/◌, ◌<◌, ◌≤◌, length, arith, subst}
use Rattle.sqlite_wal.specs.Format.{be32}
use Rattle.brk_cli_log.specs.Commits.{HasCommitMarkAt, IsLog, frame_start}
use Rattle.brk_cli_log.proofs.Counted.{frame_counted, frame_within}
use Rattle.brk_cli_log.proofs.commits.has_commit.Goals as goal

pub returns-then-has_commit_mark : goal.returns-then-has_commit_mark
returns-then-has_commit_mark c =
    let log = c.args.log.now in
    let begun : IsLog log = c.is_log.ensures.0 (search rules) in
    let size : c.read_number.result ≡ be32 log 8 = c.read_number.ensures in
    let below : c.loop-i.i < (length log - 32) / (24 + c.read_number.result) = (search rules) in
    let within : frame_start log (c.loop-i.i + 1) ≤ length log =
    subst (λ (n : ℕ). 32 + (c.loop-i.i + 1) * (24 + n) ≤ length log) size (frame_within c.loop-i.i (length log) (24 + c.read_number.result) (omega arith) begun.0 below) in
    let mark : HasCommitMarkAt log (frame_start log c.loop-i.i) =
    subst (λ (n : ℕ). HasCommitMarkAt log (32 + c.loop-i.i * (24 + n))) size (c.has_commit_mark.ensures.0 (search rules)) in
    (λ _. (begun, (c.loop-i.i, within, mark)), λ _. (search rules))

pub returns : goal.returns
returns c =
    let log = c.args.log.now in
    let size : c.read_number.result ≡ be32 log 8 = c.read_number.ensures in
    let done : (length log - 32) / (24 + be32 log 8) ≤ c.loop-i.i = subst (λ (n : ℕ). (length log - 32) / (24 + n) ≤ c.loop-i.i) size (search rules) in (
      λ no. absurd (search rules),
      λ has.
          let counted = frame_counted has.1.0 (length log) (24 + be32 log 8) (omega arith) has.1.1 in
          absurd (c.loop-i.invariant has.1.0 (omega (counted, done, arith)) has.1.2),
    )
