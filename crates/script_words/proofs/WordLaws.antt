-- Words with spaces between are the line that they were cut from.
use Rattle.std.proofs.Common.{◌≡◌, ℕ, Bool, true, false, List, [], ◌∷◌, ◌++◌, Option, Some, None, refl, ap, ◌∙◌, append_assoc}
use Rattle.std.specs.Prelude.{◌==◌, if◌then◌else◌}
use Rattle.std.specs.Option.{option_map}
use Rattle.std.proofs.lemmas.Bool.{eqb-true}
use Rattle.script_words.specs.declared.words.Place.{Place}
use Rattle.script_words.specs.declared.words.Place.TheVariants.{Begin, Bare, Quoted, Closed, Nowhere}
use Rattle.script_words.specs.Words.{place_behind, may_end, is_begin, word_behind, with_ended, words_from, words_of, joined_behind, joined}

-- ---- a word begins behind a space alone

at_space : (t : Bool) (b : ℕ) → (b == 32) ≡ t → is_begin (if t then Begin else Bare) ≡ true → b ≡ 32
at_space true b is e = eqb-true b 32 is
at_space false b is e = absurd cc

at_space_or : (t u : Bool) (b : ℕ) → (b == 32) ≡ t → is_begin (if t then Begin else if u then Quoted else Nowhere) ≡ true → b ≡ 32
at_space_or true u b is e = eqb-true b 32 is
at_space_or false true b is e = absurd cc
at_space_or false false b is e = absurd cc

no_begin : (t u : Bool) → is_begin (if t then Nowhere else if u then Quoted else Bare) ≡ true → ⊥
no_begin true u e = cc
no_begin false true e = cc
no_begin false false e = cc

no_begin_quoted : (t : Bool) → is_begin (if t then Closed else Quoted) ≡ true → ⊥
no_begin_quoted true e = cc
no_begin_quoted false e = cc

behind_space : (place : Place) (b : ℕ) → is_begin (place_behind place b) ≡ true → b ≡ 32
behind_space Begin b e = absurd (no_begin (b == 32) (b == 39) e)
behind_space Bare b e = at_space (b == 32) b refl e
behind_space Quoted b e = absurd (no_begin_quoted (b == 39) e)
behind_space Closed b e = at_space_or (b == 32) (b == 39) b refl e
behind_space Nowhere b e = absurd cc

-- ---- words and their line

-- there is a first word, and with the others behind it these are the bytes
record Joined (words : List (List ℕ)) (bytes : List ℕ) : Type 0 where
  pub first : List ℕ
  pub more : List (List ℕ)
  pub is : words ≡ first ∷ more
  pub same : first ++ joined_behind more ≡ bytes

one_word : (t : Bool) (word : List ℕ) (words : List (List ℕ)) → (if t then Some (word ∷ []) else None) ≡ Some words →
    Joined words (word ++ [])
one_word true word words e = record { first = word; more = []; is = cc; same = refl }
one_word false word words e = absurd cc

one_before : (found : Option (List (List ℕ))) (word : List ℕ) (b : ℕ) (bytes : List ℕ) (words : List (List ℕ)) → b ≡ 32 →
    ((ws : List (List ℕ)) → found ≡ Some ws → Joined ws bytes) → option_map (λ ws. word ∷ ws) found ≡ Some words
    → Joined words (word ++ b ∷ bytes)
one_before None word b bytes words space behind e = absurd cc
one_before (Some ws) word b bytes words space behind e =
    let r : Joined ws bytes = behind ws refl in
    let rest : joined_behind ws ≡ 32 ∷ bytes = ap joined_behind r.is ∙ ap (λ (bs : List ℕ). 32 ∷ bs) r.same in
    let here : joined_behind ws ≡ b ∷ bytes = rw space rest in
    record { first = word; more = ws; is = cc; same = ap (λ (bs : List ℕ). word ++ bs) here }

one_more : (t : Bool) (next : Place) (word : List ℕ) (b : ℕ) (bytes : List ℕ) (words : List (List ℕ)) → (t ≡ true → b ≡ 32) →
    ((w : List ℕ) (ws : List (List ℕ)) → words_from next w bytes ≡ Some ws → Joined ws (w ++ bytes)) →
    with_ended t word (words_from next (word_behind t word b) bytes) ≡ Some words
    → Joined words (word ++ b ∷ bytes)
one_more true next word b bytes words space behind e =
    one_before (words_from next [] bytes) word b bytes words (space refl) (behind []) e
one_more false next word b bytes words space behind e =
    let r : Joined words ((word ++ b ∷ []) ++ bytes) = behind (word ++ b ∷ []) words e in
    record { first = r.first; more = r.more; is = r.is; same = r.same ∙ append_assoc word (b ∷ []) bytes }

joins : (bytes : List ℕ) (place : Place) (word : List ℕ) (words : List (List ℕ)) → words_from place word bytes ≡ Some words →
    Joined words (word ++ bytes)
joins [] place word words e = one_word (may_end place) word words e
joins (b ∷ bytes) place word words e =
    one_more (is_begin (place_behind place b)) (place_behind place b) word b bytes words (behind_space place b)
    (joins bytes (place_behind place b)) e

pub words_join : (line : List ℕ) (words : List (List ℕ)) → words_of line ≡ Some words → joined words ≡ line
unfolding words_of
words_join line words e =
    let r : Joined words line = joins line Begin [] words e in
    ap joined r.is ∙ r.same
