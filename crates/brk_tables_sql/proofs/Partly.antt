-- The definitions that unfold when the prover lowers an SQL text, except the look-ups by name.
use Rattle.sqlite_ast.specs.declared.Expr.TheBlock
use Rattle.sqlite_ast.specs.declared.Expr.TheViews
use Rattle.sqlite_resolve.specs.Bare
use Rattle.sqlite_resolve.specs.Body
use Rattle.sqlite_resolve.specs.Compare
use Rattle.sqlite_resolve.specs.Compile
use Rattle.sqlite_resolve.specs.Compound
use Rattle.sqlite_resolve.specs.Define
use Rattle.sqlite_resolve.specs.Expr
use Rattle.sqlite_resolve.specs.Given
use Rattle.sqlite_resolve.specs.Literal
use Rattle.sqlite_resolve.specs.Lowering
use Rattle.sqlite_resolve.specs.Order
use Rattle.sqlite_resolve.specs.Pragma
use Rattle.sqlite_resolve.specs.Program
use Rattle.sqlite_resolve.specs.Scope
use Rattle.sqlite_resolve.specs.Select
use Rattle.sqlite_resolve.specs.Write
use Rattle.sqlite_value.specs.Keys
use denote.Hole.Carrier

-- A name for those definitions of the SQL compiler that translate a statement into its steps, and
-- for definitions of other crates that they use. Six are left out, which look up tables, columns or
-- the names of columns: `table_in`, `bound`, `declared` and `heading` of `Body`, and `find` and
-- `column` of `Scope`. A proof that unfolds `sql_lowering_definitions` computes with all the
-- others. The value `tt` has no meaning of its own.
unfoldable pub sql_lowering_definitions : Unit {0}
unfolding
    Select.stepless Select.constant Select.constant_or Select.having Select.parts Select.regrouped Select.grouped Select.covering Select.completed
    Select.finished Select.ungrouped Select.assembled Select.named Select.paging Expr.combine Expr.cast_to Expr.function_named Expr.count_rows
    Expr.star Expr.part Expr.replaced Expr.picked Expr.extreme Expr.truth Expr.is_empty_in Expr.tests_truth Expr.tests_alias Expr.wanted_truth
    Expr.tested Expr.passes Expr.is_one Expr.is_absent_or_one Expr.is_single Expr.is_plain Expr.wanted Expr.is_own Expr.summary Expr.counting
    Expr.counted Expr.ordered Expr.valuing Expr.valued Expr.member Expr.bounded Expr.between Expr.item Expr.listed Expr.spread Expr.among Expr.arm
    Expr.arms Expr.maybe Expr.or_null Expr.choice Expr.single Expr.null_if Expr.folded Expr.three Expr.two Expr.substring Expr.either Expr.instr
    Expr.hex Expr.replace Expr.scalar Expr.call Expr.negative Expr.prefixed Expr.both Expr.operation Expr.cast Expr.opened Expr.node Expr.lower_to
    Define.kind_named Define.affinity_named Define.ends_in_always Define.kind_in Define.with_column Define.collated Define.with_collation
    Define.with_collations Define.key_of Define.places Define.declared Define.key_for Define.order_of Define.sorted Define.changed Define.required
    Define.with_unique Define.keyed Define.with_primary Define.with_computed Define.literal_in Define.with_default Define.with_counted
    Define.with_reference Define.with_rule Define.check Define.with_check Define.checks Define.stamp Define.with_stamp Define.with_stamps
    Define.resets_computed Define.unchecked Define.table Define.index Body.bounds Body.columns_of Body.stars Body.is_column Body.first_with
    Body.agreeing Body.shared Body.all Body.tests Body.shown Body.outputs Body.left_join Body.inner_join Body.join Body.joins Body.result
    Body.matching Body.body Program.merged Program.changes Program.of_rows Program.add Program.combine Program.computed Program.naming Program.stored
    Program.chosen Program.apart Program.all_apart Program.renamed Program.reading Program.view_text Program.is_truth Program.is_renamed
    Program.differs Program.is_misnamed Program.is_recursive Program.cap Program.is_step Program.step Program.repeated Program.closing Program.closed
    Program.given Program.source Program.sources Program.view_in Program.view Program.viewing Program.single Program.alone Program.part
    Program.started Program.recursion Program.declared Program.with Program.joined Program.others Program.combined Program.compound Program.whole
    Program.level Program.query_to Program.query Program.program Compare.affinity_of Compare.of_column Compare.unbound Compare.may_be_text
    Compare.spelled Compare.is_parameter Compare.converted Compare.compared Bare.has_extreme Bare.sampled Bare.all_covered Bare.order_covered
    Literal.float Literal.hexadecimal Literal.decimal Literal.integer Order.is_integer Order.is_numeral Order.alias_in Order.written_on Order.peeled
    Order.collation_of Order.placed Order.key Order.group_key Order.keys Order.sort Order.sorts Rattle.sqlite_resolve.specs.Reach.any_scans
    Write.place Write.with_place Write.places Write.given_or Write.absent Write.cell Write.leaves_computed Write.row Write.value_row Write.value_rows
    Write.values Write.moved_to Write.moved Write.as_row Write.selected Write.inserted Write.sets Write.assigned Write.picked Write.updated_in
    Write.updated Write.deleted Lowering.begin Lowering.finish Lowering.alone Lowering.first_found Lowering.chosen Lowering.spend Lowering.again
    Lowering.take_slot Lowering.lateral Lowering.settled Lowering.aggregate Compound.unnamed Compound.sort_key Compound.sort_keys Compound.order_of
    Given.given Given.is_key_at Given.key_at Given.key_meant Given.do_update Given.update Given.upsert Given.upserts Given.is_all_of Given.returned
    Compile.values Compile.queried Compile.source_of Compile.is_reserved Compile.creates Compile.is_attached Compile.create_table Compile.create_index
    Compile.read Compile.create_view Compile.drop_table Compile.drop_view Compile.drop_index Compile.new_rows Compile.insert Compile.insert_or
    Compile.insert_or_abort Compile.update Compile.delete Compile.command Compile.shows Compile.returning Compile.timed Compile.is_stored
    Compile.first Compile.meaning Compile.planned Compile.compiled Compile.table_in Compile.table_defined_by Compile.index_in Compile.index_defined_by
    Compile.is_read Compile.view_in Compile.view_defined_by Pragma.is_on Pragma.known Pragma.pragma Scope.is_rowid Scope.column_in Scope.is_among
    Scope.rowid_in Scope.hit Scope.only Scope.in_level Scope.shown_again Scope.column_at Scope.term_of Scope.is_free
    Rattle.sqlite_schema.specs.Names.same_name Keys.joined Keys.first_key TheBlock.hidden-the_row-Expr-0 TheBlock.shown-the_row-Expr-0
    TheBlock.hidden-the_row-Expr-1 TheBlock.shown-the_row-Expr-1 TheBlock.hidden-the_row-Select-2 TheBlock.shown-the_row-Select-2
    TheBlock.hidden-the_row-Arm-3 TheBlock.shown-the_row-Arm-3 TheBlock.hidden-the_row-Shown-4 TheBlock.shown-the_row-Shown-4
    TheBlock.hidden-the_row-Source-5 TheBlock.shown-the_row-Source-5 TheBlock.hidden-the_row-Select-with-4-6 TheBlock.shown-the_row-Select-with-4-6
    TheBlock.hidden-the_row-Select-others-2-7 TheBlock.shown-the_row-Select-others-2-7 TheBlock.hidden-the_row-Sort-8 TheBlock.shown-the_row-Sort-8
    TheViews.out-Expr TheViews.roll-Expr TheViews.out-Shown TheViews.roll-Shown TheViews.out-Core TheViews.roll-Core TheViews.out-Select
    TheViews.roll-Select TheViews.out-Source TheViews.roll-Source Carrier.out Carrier.roll Carrier.shown Carrier.hidden Rattle.std.specs.Fmt.digits
sql_lowering_definitions = tt
