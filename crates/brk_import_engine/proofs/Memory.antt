-- A fault of one step of a batch, if it is one of the desk, is `Memory`.
use Rattle.std.proofs.Common.{◌≡◌, ◌⊎◌, ℕ, inl, inr, refl}
use Rattle.std.specs.Prelude.{Option}
use Rattle.brk_money.specs.Spelling.{Text}
use Rattle.brk_money.specs.declared.fault.Fault.TheVariants.{Memory}
use Rattle.brk_model.specs.Answers.{Fields}
use Rattle.brk_io.specs.declared.batch_fault.FaultKind.{FaultKind}
use Rattle.brk_io.specs.declared.batch_fault.FaultKind.TheVariants as kinds
use Rattle.brk_import_engine.specs.Batch.{DeskFaultIsMemory}
use Rattle.brk_import_engine.specs.Parts.{LastRowEndsBatchWith, EndRecordFailsWith, HeaderReadFailsWith, LineWriteFailsWith}
use Rattle.brk_import_engine.specs.declared.counts.Counts.{Counts}

pub read_memory : (kind : FaultKind) → (kind ≡ kinds.Read) ⊎ (kind ≡ kinds.Desk Memory) → DeskFaultIsMemory kind
read_memory kind (inl e) = rw e tt
read_memory kind (inr e) = rw e refl

pub part_memory : (old new : Option Text) (line : Text) (kind : FaultKind) → LineWriteFailsWith old new line kind → DeskFaultIsMemory kind
part_memory old new line kinds.Write part = tt
part_memory old new line (kinds.Desk fault) part = part.0
part_memory old new line kinds.Read part = tt
part_memory old new line kinds.BadHeader part = tt
part_memory old new line kinds.NoEnd part = tt
part_memory old new line kinds.BadEnd part = tt

pub cut_memory : (old new : Option Text) (line : Text) (kind : FaultKind) → LastRowEndsBatchWith old new line kind → DeskFaultIsMemory kind
cut_memory old new line kinds.NoEnd part = tt
cut_memory old new line kinds.Write part = tt
cut_memory old new line (kinds.Desk fault) part = part.0
cut_memory old new line kinds.Read part = tt
cut_memory old new line kinds.BadHeader part = tt
cut_memory old new line kinds.BadEnd part = tt

pub end_memory : (old new : Option Text) (row : Fields) (n : ℕ) (counts : Counts) (kind : FaultKind) → EndRecordFailsWith old new row n counts kind → DeskFaultIsMemory kind
end_memory old new row n counts kinds.BadEnd part = tt
end_memory old new row n counts kinds.Write part = tt
end_memory old new row n counts (kinds.Desk fault) part = part.0
end_memory old new row n counts kinds.Read part = tt
end_memory old new row n counts kinds.BadHeader part = tt
end_memory old new row n counts kinds.NoEnd part = tt

pub header_memory : (text : Option Text) (kind : FaultKind) → HeaderReadFailsWith text kind → DeskFaultIsMemory kind
header_memory text kinds.BadHeader part = tt
header_memory text kinds.Read part = tt
header_memory text (kinds.Desk fault) part = part
header_memory text kinds.Write part = tt
header_memory text kinds.NoEnd part = tt
header_memory text kinds.BadEnd part = tt
