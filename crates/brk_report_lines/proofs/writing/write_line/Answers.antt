use Rattle.std.proofs.Common.{◌≡◌, [], refl, ◌∙◌, append-nil}
use Rattle.brk_report_lines.specs.Written.{line_with_line_feed}
use Rattle.brk_report_lines.proofs.Composed.{appends_none}
use Rattle.brk_report_lines.proofs.writing.write_line.Goals as goal

pub returns-in-Err : goal.returns-in-Err
returns-in-Err g c = record { written = λ text made. ([], text, [], refl, appends_none _) }

pub returns-in-Err-write_all_bytes : goal.returns-in-Err-write_all_bytes
returns-in-Err-write_all_bytes g c = record {
  written = λ text made.
      let bytes : c.as_slice.result.now ≡ line_with_line_feed text = c.as_slice.ensures.value ∙ (rw c.in-Ok.is at made) in
      let part = c.in-Err-write_all_bytes.ensures.err in
      ([], text, [], part.0, refl, rw bytes at part.1);
}

pub returns : goal.returns
returns g c = record {
  written = λ text made.
      let bytes : c.as_slice.result.now ≡ line_with_line_feed text = c.as_slice.ensures.value ∙ (rw c.in-Ok.is at made) in
      rw (append-nil (line_with_line_feed text)) (rw bytes at c.in-Ok-write_all_bytes.ensures.ok);
}
