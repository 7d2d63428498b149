use Rattle.std.proofs.Common.{◌≡◌, ◌∙◌, ◌∷◌, subst, List}
use Rattle.std.specs.List.Sorted.{IsStrictlySortedBy}
use Rattle.std.specs.Map.{keys_of}
use Rattle.std.specs.FinMap.Entries as entries
use Rattle.rl_value.specs.declared.value.Value.{Value}
use Rattle.rl_value.specs.Order.{row_cmp, row_total}
use Rattle.plain_store.proofs.MapLemmas.{copied_more, is_sorted_by}
use Rattle.plain_store.proofs.plain_rows.PlainRows.copy.Goals as goal

pub loop-key-preserved : goal.loop-key-preserved
loop-key-preserved c =
    let key : c.in_ok-key.key ≡ c.in-Some.key.now = c.in_ok-key.ensures.equal in
    let row : c.in_ok-row.row ≡ c.in-Some.row.now = c.in_ok-row.ensures.equal in
    let put : c.put.new.self ≡ entries.put row_cmp c.in_ok-key.key c.in_ok-row.row c.loop-key.copies = c.in_ok-put.ensures.put in
    let more : c.put.new.self ≡ entries.put row_cmp c.in-Some.key.now c.in-Some.row.now c.loop-key.copies =
    put ∙ (λ i. entries.put row_cmp (key i) (row i) c.loop-key.copies) in
    let steps : c.loop-key.key-iterator ≡ (c.in-Some.key.now, c.in-Some.row.now) ∷ c.next.new.self = c.in-Some.ensures.steps in
    let sorted : IsStrictlySortedBy row_cmp (keys_of c.args.self.now) =
    subst (λ (es : List (List Value × List Value)). IsStrictlySortedBy row_cmp (keys_of es)) c.self.view_is
    (is_sorted_by row_cmp c.self.inside.rows.entries c.self.invariant) in
    copied_more row_cmp row_total c.args.self.now c.loop-key.copies c.loop-key.key-iterator c.next.new.self c.put.new.self
    c.in-Some.key.now c.in-Some.row.now
    c.loop-key.invariant steps sorted more

pub loop-key-preserved-in_ok-put : goal.loop-key-preserved-in_ok-put
loop-key-preserved-in_ok-put c =
    let key : c.in_ok-key.key ≡ c.in-Some.key.now = c.in_ok-key.ensures.equal in
    let row : c.in_ok-row.row ≡ c.in-Some.row.now = c.in_ok-row.ensures.equal in
    let put : c.put.new.self ≡ entries.put row_cmp c.in_ok-key.key c.in_ok-row.row c.loop-key.copies = c.in_ok-put.ensures.put in
    let more : c.put.new.self ≡ entries.put row_cmp c.in-Some.key.now c.in-Some.row.now c.loop-key.copies =
    put ∙ (λ i. entries.put row_cmp (key i) (row i) c.loop-key.copies) in
    let steps : c.loop-key.key-iterator ≡ (c.in-Some.key.now, c.in-Some.row.now) ∷ c.next.new.self = c.in-Some.ensures.steps in
    let sorted : IsStrictlySortedBy row_cmp (keys_of c.args.self.now) =
    subst (λ (es : List (List Value × List Value)). IsStrictlySortedBy row_cmp (keys_of es)) c.self.view_is
    (is_sorted_by row_cmp c.self.inside.rows.entries c.self.invariant) in
    copied_more row_cmp row_total c.args.self.now c.loop-key.copies c.loop-key.key-iterator c.next.new.self c.put.new.self
    c.in-Some.key.now c.in-Some.row.now
    c.loop-key.invariant steps sorted more
