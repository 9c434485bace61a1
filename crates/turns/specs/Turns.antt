-- The rule of the table, what each kind of step tells, and what contracts see of the turns and of a pass.
use Rattle.std.specs.Prelude.{◌≡◌, ℕ, zero, suc, ◌+◌, ◌-◌, ◌*◌, ◌^◌, ◌<◌, ◌≤◌, ◌==◌, ◌⊎◌, max, List, [], ◌∷◌, ◌++◌, Option, Some, None, MatchBool}
use mathlib.Core.Option as maybe
use mathlib.Core.Option.{some, none}
use lib.ListN.{get_elem?}
use Rattle.atomic_table.specs.Table.{State, Me, Step}
use Rattle.atomic_table.specs.Seated.{TableId}
use Rattle.turns.specs.declared.view.View.{View}

-- p stands in the list
abbrev pub In : ℕ → List ℕ → Type 0
In p [] = ⊥
In p (x ∷ xs) = (p ≡ x) ⊎ In p xs

-- no number stands in the list twice
abbrev pub Once : List ℕ → Type 0
Once [] = Unit {0}
Once (x ∷ xs) = (In x xs → ⊥) × Once xs

-- the k numbers from n on
abbrev pub span : ℕ → ℕ → List ℕ
span n zero = []
span n (suc k) = n ∷ span (suc n) k

-- the positions of the moves from the n-th on, where there are so many
abbrev pub positions : ℕ → ℕ → List ℕ
positions n many = span n (many - n)

-- Of two values one may grow to the other, and this is the later.
abbrev pub Later : {D : Type 0} → (D → D → Type 0) → Option D → Option D → Option D → Type 0
Later {D} grows one two later =
    (a b : D) → one ≡ Some a → two ≡ Some b → (grows a b × (later ≡ two)) ⊎ (grows b a × (later ≡ one))

-- The value was so at the end of one of the first turns.
abbrev pub Was : {D : Type 0} → (ℕ → D) → ℕ → D → Type 0
Was past last d = (k : ℕ) × (k ≤ last) × (past k ≡ d)

-- A seat's view tells of values that were, of a number that word 1 has reached, and of moves that only this seat made; and where it has the turn, it has the value that was last given.
pub record Fits {D : Type 0} (moves : D → ℕ) (past : ℕ → D) (last base w0 w1 seat : ℕ) (owner : ℕ → ℕ)
    (i : ℕ) (v : View D) : Type 0 where
  pub seen : (d : D) → v.seen ≡ Some d → Was past last d
  pub met : (d : D) → v.met ≡ Some d → Was past last d
  pub told : v.told ≤ w1
  pub turn : (d : D) → v.turn ≡ Some d
      → (i ≡ seat) × (w0 ≡ 2 * moves (past last) + 1) × (d ≡ past last) × (v.word ≡ w1)
  pub mine : (p : ℕ) → In p v.mine → (base ≤ p) × (p < moves (past last)) × (owner p ≡ i)
  pub once : Once v.mine

module _ {D : Type 0} (grows : D → D → Type 0) (moves done : D → ℕ) where
  -- What lies in the slot has a value, and its book counts the moves since the value came.
  module _ {H : Type 0} (value : H → D) (count : H → ℕ) where
    -- The turn is free: the value is at home, word 0 is twice the number of its moves, and word 1 is how much is done.
    abbrev pub IsFree : ℕ → D → ℕ → ℕ → List (maybe.Option (Option H)) → Type 0
    IsFree base now w0 w1 homes =
        (w0 ≡ 2 * moves now)
        × (w1 ≡ done now)
        × ((h : H) × (homes ≡ some (Some h) ∷ []) × (value h ≡ now) × (count h + base ≡ moves now))

    -- The turn is held: the value is out, and word 1 is at least how much was done of it.
    abbrev pub IsHeld : D → ℕ → ℕ → List (maybe.Option (Option H)) → Type 0
    IsHeld now w0 w1 homes = (w0 ≡ 2 * moves now + 1) × (done now ≤ w1) × (homes ≡ none ∷ [])

    -- The values at the ends of the turns grow from the one that came, the last is at home or with the seat that has the turn, and each seat's view fits.
    pub record Kept (start : D) (s : State (Option H) (View D)) : Type 0 where
      -- the value at the end of each turn, and the number of the last
      pub past : ℕ → D
      pub last : ℕ
      pub w0 : ℕ
      pub w1 : ℕ
      -- who may have the turn, and whose each position is
      pub seat : ℕ
      pub owner : ℕ → ℕ
      pub words : s.words ≡ w0 ∷ w1 ∷ []
      pub short : moves (past last) < 2 ^ 62
      pub first : past 0 ≡ start
      pub chain : (j k : ℕ) → j ≤ k → k ≤ last → grows (past j) (past k)
      pub turn : IsFree (moves start) (past last) w0 w1 s.homes ⊎ IsHeld (past last) w0 w1 s.homes
      pub each : (i : ℕ) (v : View D) → get_elem? s.views i ≡ some v
          → Fits moves past last (moves start) w0 w1 seat owner i v

-- a seat that knows of nothing but the value that came
abbrev pub newcomer : {D : Type 0} → D → View D
newcomer start =
    record { start = Some start; seen = Some start; met = None; mine = []; turn = None; word = 0; told = 0 }

-- a seat that was joined away, and knows nothing
abbrev pub spent : {D : Type 0} → View D
spent = record { start = None; seen = None; met = None; mine = []; turn = None; word = 0; told = 0 }

-- a seat that took the turn and found the value d
abbrev pub taken : {D : Type 0} → (D → ℕ) → View D → D → View D
taken done v d = record v { seen = Some d; turn = Some d; word = done d }

-- after the turn: the moves since the value was found are the seat's own
abbrev pub given : {D : Type 0} → (D → ℕ) → View D → D → D → View D
given moves v found d =
    record v { seen = Some d; mine = v.mine ++ positions (moves found) (moves d); turn = None }

-- The seat has the turn, word 1 is how much was done of the value that it found, and this may grow to d.
abbrev pub HasTurn : {D : Type 0} → (D → D → Type 0) → (D → ℕ) → View D → D → Type 0
HasTurn {D} grows done v d = (found : D) × (v.turn ≡ Some found) × (v.word ≡ done found) × grows found d

-- a seat that stored n in word 1
abbrev pub published : {D : Type 0} → View D → ℕ → View D
published v n = record v { word = n }

-- a seat that read n from word 1
abbrev pub looked : {D : Type 0} → View D → ℕ → View D
looked v n = record v { told = n }

-- a second seat, which has seen as much and made no move
abbrev pub copied : {D : Type 0} → View D → View D
copied v = record v { met = None; mine = []; turn = None }

-- both views in one: which has seen more shows at the next load of word 0
abbrev pub joined : {D : Type 0} → View D → View D → View D
joined v w = record v { met = w.seen; mine = v.mine ++ w.mine; told = max v.told w.told }

-- a seat that has found which of the two had seen more
abbrev pub compared : {D : Type 0} → View D → Option D → View D
compared v seen = record v { seen = seen; met = None }

module _ {D : Type 0} (grows : D → D → Type 0) (moves done : D → ℕ) where
  module _ {H : Type 0} (value : H → D) (count : H → ℕ) where
    -- The seat has the value, which has grown from all that the seat saw, and the word is twice the number of its moves.
    abbrev pub Takes : ℕ → View D → Me (Option H) (View D) → Type 0
    Takes word v after =
        (h : H)
        × (after ≡ (taken done v (value h), (0, Some h) ∷ []))
        × (moves (value h) < 2 ^ 62)
        × ((d : D) → v.seen ≡ Some d → grows d (value h))
        × ((d : D) → v.start ≡ Some d → grows d (value h) × (count h + moves d ≡ moves (value h)))
        × (word ≡ 2 * moves (value h))

    -- The turn is taken where the word was found as it was expected, and else nothing changes.
    abbrev pub Took : Step (Option H) → Me (Option H) (View D) → ℕ → Me (Option H) (View D) → Type 0
    Took s before found after = MatchBool (found == s.first) (Takes s.first before.0 after) (after ≡ before)

-- the turn is given back with the value
abbrev pub Gave : {D H : Type 0} → (D → ℕ) → (H → D)
    → Step (Option H) → Me (Option H) (View D) → ℕ → Me (Option H) (View D) → Type 0
Gave {D} {H} moves value s before found after =
    (h : H) (d : D) → before.1 ≡ (0, Some h) ∷ [] → before.0.turn ≡ Some d
    → after ≡ (given moves before.0 d (value h), [])

-- the seat knows what it stored
abbrev pub Published : {D H : Type 0}
    → Step (Option H) → Me (Option H) (View D) → ℕ → Me (Option H) (View D) → Type 0
Published s before found after = after ≡ (published before.0 found, before.1)

-- the seat knows what it read, which is no less than it knew before
abbrev pub Looked : {D H : Type 0} → (D → ℕ)
    → Step (Option H) → Me (Option H) (View D) → ℕ → Me (Option H) (View D) → Type 0
Looked {D} {H} done s before found after =
    (after ≡ (looked before.0 found, before.1))
    × ((d : D) → before.0.seen ≡ Some d → done d ≤ found)
    × (before.0.told ≤ found)

-- of the two that were joined one had seen what the other has
abbrev pub Compared : {D H : Type 0} → (D → D → Type 0)
    → Step (Option H) → Me (Option H) (View D) → ℕ → Me (Option H) (View D) → Type 0
Compared {D} {H} grows s before found after =
    (seen : Option D) × (after ≡ (compared before.0 seen, before.1)) × Later grows before.0.seen before.0.met seen

-- the table of a shared value has two words and one slot
abbrev pub IsTable : TableId → Type 0
IsTable z = (z.words ≡ 2) × (z.slots ≡ 1)

-- which value is shared, and as what it came: always `Some`, since only a view that was joined away has none
pub record Stand (D : Type 0) : Type 0 where
  pub id : TableId
  pub start : Option D

-- What a pass knows: which value it is of, that value as it saw it last, the positions of the moves of its own turns, the most that it was told to be done, and its parts of the ledger.
pub record Known (D : Type 0) : Type 0 where
  pub of : Stand D
  pub seen : Option D
  pub mine : List ℕ
  pub told : ℕ
  pub parts : ℕ

-- what a seat of the table z with the view v knows
abbrev pub known : {D : Type 0} → TableId → View D → ℕ → Known D
known z v parts =
    record { of = record { id = z; start = v.start }; seen = v.seen; mine = v.mine; told = v.told; parts = parts }

-- The value has grown from what the pass saw last, and from what it came as.
abbrev pub Knows : {D : Type 0} → (D → D → Type 0) → Known D → D → Type 0
Knows {D} grows p now =
    ((d : D) → p.seen ≡ Some d → grows d now) × ((d : D) → p.of.start ≡ Some d → grows d now)

-- what a pass knows after a turn that found the value so and left it so
abbrev pub saw : {D : Type 0} → (D → ℕ) → Known D → D → D → Known D
saw moves p found after =
    record p { seen = Some after; mine = p.mine ++ positions (moves found) (moves after) }

-- A turn found the value grown from all that the pass knew and let it grow, and the pass has then seen what it left, its own moves among it.
abbrev pub Turned : {D : Type 0} → (D → D → Type 0) → (D → ℕ) → Known D → D → D → Known D → Type 0
Turned grows moves before found after new =
    Knows grows before found × grows found after × (new ≡ saw moves before found after)

-- The pass has the moves and the parts of both, the greater of what they were told, and has seen the later of what they had seen.
abbrev pub Joined : {D : Type 0} → (D → D → Type 0) → Known D → Known D → Known D → Type 0
Joined grows into other new =
    (new ≡ record into {
      seen = new.seen;
      mine = into.mine ++ other.mine;
      told = max into.told other.told;
      parts = into.parts + other.parts;
    })
    × Later grows into.seen other.seen new.seen
