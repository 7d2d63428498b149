use Rattle.std.proofs.Common.{◌≡◌, ◌<◌, length, subst, sym, ap, ◌∙◌, get_or}
use Rattle.std.proofs.lemmas.List.{length-set}
use Rattle.std.specs.Arc.{arc_value}
use Rattle.std.specs.FinMap.Entries.{put}
use Rattle.rl_value.specs.Order.{row_cmp}
use Rattle.row_tree.specs.Sound.{IsPlace}
use Rattle.row_tree.proofs.Sounding.{put_in, on_ok, written_back}
use Rattle.row_tree.proofs.level.Level.put.Goals as goal

pub insert_behind-requires : goal.insert_behind-requires
insert_behind-requires g c =
    let children = c.args.self.now.children.items in
    let at = c.seek-at.result in
    let inside : at < length children = subst (λ ks. at < length ks) c.as_slice.ensures.value c.seek-at.ensures.inside in
    let wrote = written_back children c.as_mut_slice-children.result.now c.args.self.now.children.len at c.put.new.self
    c.as_mut_slice-children.ensures.value c.as_mut_slice-children.ensures.len in
    record {
      inside = subst (λ ks. at < length ks) (sym wrote)
          (subst (λ n. at < n) (sym (length-set children at c.put.new.self)) inside);
    }

pub returns-clause-put : goal.returns-clause-put
returns-clause-put g c =
    let f = g.K.Part.entries in
    let children = c.args.self.now.children.items in
    let at = c.seek-at.result in
    let x = c.index-children-at.result in
    let inside : at < length children = subst (λ ks. at < length ks) c.as_slice.ensures.value c.seek-at.ensures.inside in
    let near : IsPlace f c.deref.result.now.key children at =
    subst (λ ks. IsPlace f c.deref.result.now.key ks at) c.as_slice.ensures.value c.seek-at.ensures.place in
    let place : IsPlace f (arc_value c.args.item.entry).key children at = subst (λ q. IsPlace f q.key children at) c.deref.ensures near in
    let was : x ≡ get_or children at x =
    subst (λ ks. x ≡ get_or ks at x) c.as_mut_slice-children.ensures.value c.index-children-at.is in
    let wrote = written_back children c.as_mut_slice-children.result.now c.args.self.now.children.len at c.put.new.self
    c.as_mut_slice-children.ensures.value c.as_mut_slice-children.ensures.len in
    let is = c.in_ok-more.ensures.put ∙
    ap (λ part. put row_cmp (arc_value c.args.item.entry).key (arc_value c.args.item.entry).row (f part))
    (sym c.index-children-at.is) in
    on_ok _ c.insert_behind.ensures.put (λ e.
    (put_in f g.K.Part.sound (arc_value c.args.item.entry).key (arc_value c.args.item.entry).row children at x c.put.new.self
    c.in_ok-more.more _ c.insert_behind.new.children.items c.requires.sound inside was place wrote is
    c.in_ok-more.ensures.sound.0 c.in_ok-more.ensures.sound.1 e).0)

pub returns-clause-sound : goal.returns-clause-sound
returns-clause-sound g c =
    let f = g.K.Part.entries in
    let children = c.args.self.now.children.items in
    let at = c.seek-at.result in
    let x = c.index-children-at.result in
    let inside : at < length children = subst (λ ks. at < length ks) c.as_slice.ensures.value c.seek-at.ensures.inside in
    let near : IsPlace f c.deref.result.now.key children at =
    subst (λ ks. IsPlace f c.deref.result.now.key ks at) c.as_slice.ensures.value c.seek-at.ensures.place in
    let place : IsPlace f (arc_value c.args.item.entry).key children at = subst (λ q. IsPlace f q.key children at) c.deref.ensures near in
    let was : x ≡ get_or children at x =
    subst (λ ks. x ≡ get_or ks at x) c.as_mut_slice-children.ensures.value c.index-children-at.is in
    let wrote = written_back children c.as_mut_slice-children.result.now c.args.self.now.children.len at c.put.new.self
    c.as_mut_slice-children.ensures.value c.as_mut_slice-children.ensures.len in
    let is = c.in_ok-more.ensures.put ∙
    ap (λ part. put row_cmp (arc_value c.args.item.entry).key (arc_value c.args.item.entry).row (f part))
    (sym c.index-children-at.is) in
    on_ok _ c.insert_behind.ensures.put (λ e.
    (put_in f g.K.Part.sound (arc_value c.args.item.entry).key (arc_value c.args.item.entry).row children at x c.put.new.self
    c.in_ok-more.more _ c.insert_behind.new.children.items c.requires.sound inside was place wrote is
    c.in_ok-more.ensures.sound.0 c.in_ok-more.ensures.sound.1 e).1)
