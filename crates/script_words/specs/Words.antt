-- The words of a line: one space stands between two of them, and none is empty.
-- A word that begins with a quote is a quoted text: it goes to the closing quote, behind which a space or the line's end
-- stands; spaces may stand in it, and a quote in it stands twice. A quote elsewhere in a word is a byte like others.
-- This project's own.
use Rattle.std.specs.Prelude.{ℕ, List, [], ◌∷◌, ◌++◌, Bool, true, false, ◌==◌, if◌then◌else◌, Option, Some, None}
use Rattle.std.specs.List.{flat_map}
use Rattle.std.specs.Option.{option_map}
use Rattle.rl_value.specs.Literal.{quote}
use Rattle.script_words.specs.declared.words.Place.{Place}
use Rattle.script_words.specs.declared.words.Place.TheVariants.{Begin, Bare, Quoted, Closed, Nowhere}

-- the byte between two words
abbrev pub space : ℕ
space = 32

-- where the byte behind this one stands
abbrev pub place_behind : Place → ℕ → Place
place_behind Begin b = if b == space then Nowhere else if b == quote then Quoted else Bare
place_behind Bare b = if b == space then Begin else Bare
place_behind Quoted b = if b == quote then Closed else Quoted
place_behind Closed b = if b == space then Begin else if b == quote then Quoted else Nowhere
place_behind Nowhere b = Nowhere

-- a line may end here
abbrev pub may_end : Place → Bool
may_end Begin = false
may_end Bare = true
may_end Quoted = false
may_end Closed = true
may_end Nowhere = false

-- another word begins here
abbrev pub is_begin : Place → Bool
is_begin Begin = true
is_begin Bare = false
is_begin Quoted = false
is_begin Closed = false
is_begin Nowhere = false

-- the word that has begun, behind one more byte, which is a space before another word or a byte of it
abbrev pub word_behind : Bool → List ℕ → ℕ → List ℕ
word_behind true word b = []
word_behind false word b = word ++ b ∷ []

-- a word that has ended, before those that follow
abbrev pub with_ended : Bool → List ℕ → Option (List (List ℕ)) → Option (List (List ℕ))
with_ended true word words = option_map (λ ws. word ∷ ws) words
with_ended false word words = words

-- the words from this place on, the first of which has begun so
abbrev pub words_from : Place → List ℕ → List ℕ → Option (List (List ℕ))
words_from place word [] = if may_end place then Some (word ∷ []) else None
words_from place word (b ∷ bytes) =
    let next = place_behind place b in
    with_ended (is_begin next) word (words_from next (word_behind (is_begin next) word b) bytes)

-- the words of a line
unfoldable pub words_of : List ℕ → Option (List (List ℕ))
words_of line = words_from Begin [] line

-- words with a space before each
abbrev pub joined_behind : List (List ℕ) → List ℕ
joined_behind words = flat_map (λ word. space ∷ word) words

-- words with a space between each and the next
abbrev pub joined : List (List ℕ) → List ℕ
joined [] = []
joined (word ∷ words) = word ++ joined_behind words

-- what was read before, in front of what is still read
abbrev pub with_front : {A : Type 0} → List A → Option (List A) → Option (List A)
with_front front None = None
with_front front (Some xs) = Some (front ++ xs)
