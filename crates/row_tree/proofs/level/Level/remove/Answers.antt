use Rattle.std.proofs.Common.{◌≡◌, ◌<◌, length, subst, sym, Some, None, IfSome, take-append-drop}
use Rattle.row_tree.specs.Sound.{IsPlace}
use Rattle.row_tree.specs.Entries.{and_more, without}
use Rattle.row_tree.proofs.Sounding.{removed_in, on_ok}
use Rattle.row_tree.proofs.level.Level.remove.Goals as goal

pub returns-in-None-clause-left : goal.returns-in-None-clause-left
returns-in-None-clause-left g c =
    let f = g.K.Part.entries in
    let children = c.args.self.now.children.items in
    let k = c.args.key.now in
    let inside : c.seek-at.result < length children =
    subst (λ ks. c.seek-at.result < length ks) c.as_slice.ensures.value c.seek-at.ensures.inside in
    let place : IsPlace f k children c.seek-at.result =
    subst (λ ks. IsPlace f k ks c.seek-at.result) c.as_slice.ensures.value c.seek-at.ensures.place in
    let is : and_more f None ≡ without k (f c.remove-child.result) =
    subst (λ o. and_more f o ≡ without k (f c.remove-child.result)) c.in-None.is c.in_ok-remove.ensures.left in
    (removed_in f g.K.Part.sound k children c.seek-at.result c.remove-child.result None c.remove-child.new.self.items
    c.remove-child.new.self.items
    c.requires.sound inside c.remove-child.ensures.value place c.remove-child.ensures.items is tt
    (sym (take-append-drop c.seek-at.result c.remove-child.new.self.items))).0

pub returns-in-Some-clause-left : goal.returns-in-Some-clause-left
returns-in-Some-clause-left g c =
    let f = g.K.Part.entries in
    let children = c.args.self.now.children.items in
    let k = c.args.key.now in
    let inside : c.seek-at.result < length children =
    subst (λ ks. c.seek-at.result < length ks) c.as_slice.ensures.value c.seek-at.ensures.inside in
    let place : IsPlace f k children c.seek-at.result =
    subst (λ ks. IsPlace f k ks c.seek-at.result) c.as_slice.ensures.value c.seek-at.ensures.place in
    let is : and_more f (Some c.in-Some.child) ≡ without k (f c.remove-child.result) =
    subst (λ o. and_more f o ≡ without k (f c.remove-child.result)) c.in-Some.is c.in_ok-remove.ensures.left in
    let two : g.K.Part.sound c.in-Some.child = subst (λ o. IfSome o g.K.Part.sound) c.in-Some.is c.in_ok-remove.ensures.sound in
    on_ok _ c.put_back.ensures.put (λ e.
    (removed_in f g.K.Part.sound k children c.seek-at.result c.remove-child.result (Some c.in-Some.child)
    c.remove-child.new.self.items c.put_back.new.children.items
    c.requires.sound inside c.remove-child.ensures.value place c.remove-child.ensures.items is two e).0)

pub returns-in-None-clause-sound : goal.returns-in-None-clause-sound
returns-in-None-clause-sound g c =
    let f = g.K.Part.entries in
    let children = c.args.self.now.children.items in
    let k = c.args.key.now in
    let inside : c.seek-at.result < length children =
    subst (λ ks. c.seek-at.result < length ks) c.as_slice.ensures.value c.seek-at.ensures.inside in
    let place : IsPlace f k children c.seek-at.result =
    subst (λ ks. IsPlace f k ks c.seek-at.result) c.as_slice.ensures.value c.seek-at.ensures.place in
    let is : and_more f None ≡ without k (f c.remove-child.result) =
    subst (λ o. and_more f o ≡ without k (f c.remove-child.result)) c.in-None.is c.in_ok-remove.ensures.left in
    (removed_in f g.K.Part.sound k children c.seek-at.result c.remove-child.result None c.remove-child.new.self.items
    c.remove-child.new.self.items
    c.requires.sound inside c.remove-child.ensures.value place c.remove-child.ensures.items is tt
    (sym (take-append-drop c.seek-at.result c.remove-child.new.self.items))).1

pub returns-in-Some-clause-sound : goal.returns-in-Some-clause-sound
returns-in-Some-clause-sound g c =
    let f = g.K.Part.entries in
    let children = c.args.self.now.children.items in
    let k = c.args.key.now in
    let inside : c.seek-at.result < length children =
    subst (λ ks. c.seek-at.result < length ks) c.as_slice.ensures.value c.seek-at.ensures.inside in
    let place : IsPlace f k children c.seek-at.result =
    subst (λ ks. IsPlace f k ks c.seek-at.result) c.as_slice.ensures.value c.seek-at.ensures.place in
    let is : and_more f (Some c.in-Some.child) ≡ without k (f c.remove-child.result) =
    subst (λ o. and_more f o ≡ without k (f c.remove-child.result)) c.in-Some.is c.in_ok-remove.ensures.left in
    let two : g.K.Part.sound c.in-Some.child = subst (λ o. IfSome o g.K.Part.sound) c.in-Some.is c.in_ok-remove.ensures.sound in
    on_ok _ c.put_back.ensures.put (λ e.
    (removed_in f g.K.Part.sound k children c.seek-at.result c.remove-child.result (Some c.in-Some.child)
    c.remove-child.new.self.items c.put_back.new.children.items
    c.requires.sound inside c.remove-child.ensures.value place c.remove-child.ensures.items is two e).1)
