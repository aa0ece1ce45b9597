use Rattle.brk_cli_log.proofs.Lost.{lost_commit}
use Rattle.brk_cli_log.proofs.behind.has_lost_commit.Goals as goal

pub returns-then-k-count : goal.returns-then-k-count
returns-then-k-count c =
    lost_commit _ _ _ _ _ c.read_number-page_size.ensures c.requires.signed
    (record { before = c.first_invalid-k.ensures.before; here = c.first_invalid-k.ensures.here c.if-k-count.true })
    c.count_frames-count.ensures.all c.has_commits_behind.ensures
