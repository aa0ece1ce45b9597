use Rattle.brk_store.proofs.index.index_after_changes.Goals as goal

pub returns-in-Ok : goal.returns-in-Ok
returns-in-Ok c = λ a b after is.
    let was = (rw c.in-Made.is at is) in
    (_, after was.0 was.1, c.in-Ok.ensures was.0 was.2)

pub returns-in-Err : goal.returns-in-Err
returns-in-Err c = λ a b after is. let was = (rw c.in-Made.is at is) in (_, after was.0 was.1)

pub returns-in-Unmade : goal.returns-in-Unmade
returns-in-Unmade c = λ a b after is. let was = (rw c.in-Unmade.is at is) in (_, after was.0 was.1)

pub returns-in-Absent : goal.returns-in-Absent
returns-in-Absent c = λ a b after is. tt
