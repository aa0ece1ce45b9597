use Rattle.brk_store_index.specs.Index.{IsIndexOf}
use Rattle.brk_store_index.specs.Terms.{AreTermsOf}
use Rattle.brk_store_reads.proofs.ReadResults.{both_told}
use Rattle.brk_store_reads.proofs.row_index.read_row_index.Goals as goal

pub returns-clause-read : goal.returns-clause-read
returns-clause-read g c =
    both_told g.S.Store c.args.conn.now c.read_terms.new.conn c.read_index_with_terms.new.conn c.in_ok-terms.terms c.read_index_with_terms.result AreTermsOf (λ index t. AreTermsOf c.in_ok-terms.terms t → IsIndexOf index t) IsIndexOf
    (λ index t are told. told are) c.in_ok-terms.ensures.read c.read_index_with_terms.ensures.read
