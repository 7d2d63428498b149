use Rattle.std.proofs.Common.{rules, ◌≡◌, ◌*◌, [], ◌∷◌, sym, subst}
use Rattle.std.specs.Prelude.{Some}
use Rattle.atomic_table.specs.Table.{opening}
use Rattle.tag_lock.specs.Rule.{Kept, first_view}
use Rattle.tag_lock.proofs.Keeps.{begins_known}
use Rattle.tag_lock.proofs.lock.TagLock.told.Goals as goal

pub new-requires : goal.new-requires
new-requires g c =
    let slots : c.push.new.self.items ≡ Some c.args.value ∷ [] = search rules in
    let rule = Kept g.V.Tagged.stands g.V.Tagged.height in
    let view = first_view c.args.about.0.tag c.args.about.1.start c.args.about.2 in
    subst
    (λ xs. rule (opening (2 * c.args.about.2 ∷ []) xs view))
    (sym slots)
    (begins_known g.V.Tagged.stands g.V.Tagged.height c.args.value c.args.about.0.tag c.args.about.1.start c.args.about.2
    c.requires.stands (search rules))
