use Rattle.std.proofs.Common.{rules, ◌≡◌, ◌∙◌, ap, length, take, drop, ◌++◌, ◌<◌, ℕ}
use Rattle.std.proofs.Math.Seq.{take-append_seam}
use Rattle.sqlite_disk.specs.Disk.{Holds}
use Rattle.brk_cli_jobs.proofs.Overwritten.{held_whole}
use Rattle.brk_cli_jobs.proofs.log_writing.read_whole.Goals as goal

pub returns-clause-read : goal.returns-clause-read
returns-clause-read g c = λ clean.
    let bytes = c.read_at.new.buf in
    let old = g.D.Disk.seen c.args.file.now in
    let len : length bytes ≡ length old = (search rules) in
    let held : 0 < length bytes → Holds old 0 bytes = λ some. (search rules) in
    let of_len : c.in_ok-bytes.bytes.len ≡ length bytes = (search rules) in
    let rest = drop (length bytes) c.in_ok-bytes.bytes.items in
    ap (λ (n : ℕ). take n (bytes ++ rest)) of_len ∙ take-append_seam bytes rest ∙ held_whole bytes old len held
