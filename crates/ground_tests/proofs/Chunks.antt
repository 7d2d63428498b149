-- A chunk that was put is there.
use Rattle.std.proofs.Common.{◌≡◌, ℕ, List, true, cond, refl, sym, ap, ◌∙◌, subst, arith, Option, Some, None}
use Rattle.std.specs.Prelude.{◌==◌, IsSome}
use Rattle.std.specs.Cmp.{nat_cmp_total, unsigned_ties}
use Rattle.std.specs.Ordering.{nat_cmp}
use Rattle.std.specs.FinMap.Entries as entries
use Rattle.std.proofs.lemmas.Bool.Decides.{nat_tests}
use Rattle.rl_ports.specs.Store.{Chunks, chunk_of, with_chunk}

same : (id : ℕ) → (id == id) ≡ true
same id = grind (arith, nat_tests)

found : (id : ℕ) (bytes : List ℕ) (held : Chunks) → chunk_of (with_chunk id bytes held) id ≡ Some bytes
found id bytes held =
    entries.find-put nat_cmp nat_cmp_total id id bytes held
    ∙ ap (λ b. cond b (Some bytes) (entries.find nat_cmp id held)) (sym (unsigned_ties id id) ∙ same id)

-- the chunk of a store, where it is told
abbrev chunk_in : ℕ → Option Chunks → Option (List ℕ)
chunk_in id None = None
chunk_in id (Some chunks) = chunk_of chunks id

-- a store that tells, behind a put
pub chunk-there : (id : ℕ) (bytes : List ℕ) (held new : Chunks) → Some new ≡ Some (with_chunk id bytes held) →
    IsSome (chunk_of new id)
chunk-there id bytes held new e = subst (λ o. IsSome o) (sym (ap (chunk_in id) e ∙ found id bytes held)) refl
