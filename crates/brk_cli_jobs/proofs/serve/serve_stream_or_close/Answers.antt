use Rattle.brk_cli_jobs.proofs.Sequence.{closes_desk}
use Rattle.brk_cli_jobs.proofs.serve.serve_stream_or_close.Goals as goal

pub returns-in-Err : goal.returns-in-Err
returns-in-Err g c = (
  c.serve_stamped.new.desk,
  c.in-Err.ending,
  c.in-Err.ensures,
  closes_desk g.F.DeskFiles.closes c.serve_stamped.new.desk.desk c.into_store.result c.in-Err.ending c.ending_after_close.result c.close.result c.into_store.ensures
      c.close.ensures c.ending_after_close.ensures,
)
