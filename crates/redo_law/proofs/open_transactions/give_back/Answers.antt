use Rattle.std.proofs.Common.{◌≡◌, subst, length, sym, ap, ◌∙◌, refl, Some, None, [], ◌∷◌, ◌++◌, Option, MatchOption, List}
use Rattle.std.specs.BTreeMap as tree
use Rattle.rl_value.specs.declared.key.Key.{Key}
use Rattle.rl_value.specs.Order.{key_cmp}
use Rattle.redo_law.specs.Held.{hold_after_undo}
use Rattle.redo_law.proofs.TransactionLaws.{gives_none, gives_one}
use Rattle.redo_law.proofs.open_transactions.give_back.Goals as goal

none_match : {A : Type 0} (P : Type 0) (Q : A → Type 0) (o : Option A) → MatchOption o P Q → o ≡ None → P
none_match P Q None p e = p
none_match P Q (Some x) p e = absurd (cc)

some_match : {A : Type 0} (P : Type 0) (Q : A → Type 0) (o : Option A) (x : A) → MatchOption o P Q → o ≡ Some x → Q x
some_match P Q None x p e = absurd (cc)
some_match P Q (Some y) x p e = let same : y ≡ x = cc in subst Q same p

pub returns-in_default : goal.returns-in_default
returns-in_default c =
    let h = none_match _ _ c.pop.result c.pop.ensures c.in_default.is in
    gives_none _ _ _ h.0 (ap (λ kss. record { xid = c.args.txn.now.xid; keys = kss }) (h.1 ∙ sym h.0))

pub returns : goal.returns
returns c =
    let h : c.args.txn.now.keys ≡ c.pop.new.self ++ c.in-Some.keys ∷ [] =
    some_match _ (λ (ks : List Key). c.args.txn.now.keys ≡ c.pop.new.self ++ ks ∷ []) c.pop.result c.in-Some.keys
    c.pop.ensures c.in-Some.is in
    gives_one c.args.txn.now _ c.in-Some.keys (tree.get key_cmp c.args.locks.now) _ h refl (λ q.
    c.free_keys_of.ensures q
    ∙ ap (λ ks. hold_after_undo (tree.get key_cmp c.args.locks.now) ks c.args.txn.now.xid (length c.items.result.now) q)
    c.items-2.ensures
    ∙ ap (λ n. hold_after_undo (tree.get key_cmp c.args.locks.now) c.in-Some.keys c.args.txn.now.xid n q)
    (ap length c.items.ensures))
