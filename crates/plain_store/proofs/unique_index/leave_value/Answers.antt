use Rattle.std.proofs.Common.{◌≡◌, ◌∙◌, sym, ap, true, false}
use Rattle.std.specs.BTreeMap as tree
use Rattle.rl_value.specs.Order.{key_cmp}
use Rattle.plain_store.specs.Unique.{is_value_of, is_lead, lead_without}
use Rattle.plain_store.proofs.UniqueLaws.{left_own, left_other}
use Rattle.plain_store.proofs.unique_index.leave_value.Goals as goal

pub returns-then-leads_to : goal.returns-then-leads_to
returns-then-leads_to c =
    let holds = tree.get key_cmp c.args.owners.now in
    let key = c.args.key.now in
    let there : is_lead key (holds c.in-Some.unique) ≡ true =
    sym (c.leads_to.ensures.exact ∙ ap (is_lead key) c.get.ensures.value) ∙ c.if-leads_to.true in
    record {
      left = λ q. c.remove.ensures.updates.0 q ∙ left_own holds c.in-Some.unique key there q ∙
          ap (λ o. lead_without (is_value_of q o) key (holds q)) (sym c.in-Some.is);
    }

pub returns : goal.returns
returns c =
    let holds = tree.get key_cmp c.args.owners.now in
    let key = c.args.key.now in
    let elsewhere : is_lead key (holds c.in-Some.unique) ≡ false =
    sym (c.leads_to.ensures.exact ∙ ap (is_lead key) c.get.ensures.value) ∙ c.if-leads_to.false in
    record {
      left = λ q. left_other holds c.in-Some.unique key elsewhere q ∙
          ap (λ o. lead_without (is_value_of q o) key (holds q)) (sym c.in-Some.is);
    }
