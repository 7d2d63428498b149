-- How many change records a chunk has, and their bytes one behind the other.
use Rattle.std.proofs.Common.{◌≡◌, ℕ, ◌≤◌, ◌<◌, Bool, true, false, ◌&&◌, List, [], ◌∷◌, ◌++◌, ◌+◌, length, map, take, get_or, refl, sym, ap, ◌∙◌, append_assoc, arith}
use Rattle.std.specs.Prelude.{nat_lt}
use Rattle.std.proofs.lemmas.Bool.{ltb-true}
use Rattle.std.specs.List.{flat_map}
use Rattle.std.proofs.lemmas.Grind.{flat_map-append}
use Rattle.std.proofs.lemmas.List.{append-nil, length-map, map_more}
use Rattle.std.proofs.lemmas.List.Concat.{flat_map-cons}
use Rattle.redo_spec.specs.History.{Placed}
use Rattle.lcr.specs.declared.change_record.Lcr.{Lcr}
use Rattle.lcr.specs.Chunks.{placed, is_chunk, are_of_xid, rise_behind, chunk_limit}
use Rattle.lcr.specs.Spilled.{placed_bytes}

pub placed_count : (ls : List Lcr) → length (map placed ls) ≡ length ls
placed_count ls = length-map ls placed

both : (a b : Bool) → (a && b) ≡ true → (a ≡ true) × (b ≡ true)
both true b e = (refl, e)
both false b e = absurd (cc)

pub chunk_some : (ls : List Lcr) → is_chunk (map placed ls) ≡ true → 1 ≤ length ls
chunk_some [] e = absurd (cc)
chunk_some (l ∷ ls) e = omega arith

pub chunk_few : (ls : List Lcr) → is_chunk (map placed ls) ≡ true → length ls ≤ chunk_limit
chunk_few [] e = absurd (cc)
chunk_few (l ∷ ls) e =
    let ps = map placed ls in
    let p = both (nat_lt (length ps) chunk_limit && are_of_xid l.change.xid ps) (rise_behind l.pos ps) e in
    let q = both (nat_lt (length ps) chunk_limit) (are_of_xid l.change.xid ps) p.0 in
    let below : length ps < chunk_limit = ltb-true _ _ q.0 in
    omega (arith, below, placed_count ls)

-- the bytes so far, with those of the next one
pub put_more : (out new start : List ℕ) (ls : List Lcr) (i : ℕ) (l : Lcr) → i < length ls → l ≡ get_or ls i l →
    new ≡ out ++ placed_bytes (placed l) → out ≡ start ++ flat_map placed_bytes (map placed (take i ls)) →
    new ≡ start ++ flat_map placed_bytes (map placed (take (i + 1) ls))
put_more out new start ls i l low is put so_far =
    let before = flat_map placed_bytes (map placed (take i ls)) in
    let last : flat_map placed_bytes (placed l ∷ []) ≡ placed_bytes (placed l) =
    flat_map-cons placed_bytes (placed l) [] ∙ append-nil (placed_bytes (placed l)) in
    let more : map placed (take (i + 1) ls) ≡ map placed (take i ls) ++ placed l ∷ [] =
    map_more placed ls i l low ∙ ap (λ (x : Lcr). map placed (take i ls) ++ placed x ∷ []) (sym is) in
    put
    ∙ ap (λ (bytes : List ℕ). bytes ++ placed_bytes (placed l)) so_far
    ∙ append_assoc start before (placed_bytes (placed l))
    ∙ ap (λ (bytes : List ℕ). start ++ (before ++ bytes)) (sym last)
    ∙ ap (λ (bytes : List ℕ). start ++ bytes) (sym (flat_map-append placed_bytes (map placed (take i ls)) (placed l ∷ [])))
    ∙ ap (λ (ps : List Placed). start ++ flat_map placed_bytes ps) (sym more)
