use Rattle.std.proofs.Common.{◌≡◌, ℕ, ◌-◌, List, length, take, true, ap, sym, subst, ◌∙◌}
use Rattle.row_apply.specs.declared.writes.Write.{Write}
use Rattle.row_apply.specs.Overlaid.{writes_rise}
use Rattle.table_store.specs.Shared.{id_in, writes_up_to, writes_past}
use Rattle.table_store.proofs.Turning.{up_to_taken, up_to_rise, past_rise}
use Rattle.table_store.proofs.table_list.split.Goals as goal

pub returns : goal.returns
returns c =
    let id = id_in c.args.shared.now in
    let ws = c.args.writes.now in
    let others : c.writes_past-others.result.now ≡ writes_past id ws =
    c.writes_past-others.ensures.exact ∙ ap (λ (n : ℕ). writes_past n ws) c.args.shared.now.identified in
    let own : take (length ws - length c.writes_past-others.result.now) ws ≡ writes_up_to id ws =
    ap (λ (os : List Write). take (length ws - length os) ws) others ∙ up_to_taken id ws in
    let P : List Write → Type 0 = λ vs. writes_rise vs ≡ true in
    record {
      own = own;
      others = others;
      own_rise = subst P (sym own) (up_to_rise id ws c.requires.writes_rise);
      others_rise = subst P (sym others) (past_rise id ws c.requires.writes_rise);
    }
