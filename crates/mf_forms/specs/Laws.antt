-- What holds of quotes.
use Rattle.std.specs.Prelude.{◌≡◌, ℕ, true, false, List, ◌∷◌, ◌++◌, map}
use Rattle.std.specs.List.{list_any}
use Rattle.mf_text.specs.Expansion.{holds}
use Rattle.mf_forms.specs.Quotes.{Place, bare, quoted, mark, is_quote, placed, is_open_at_end}

-- bytes that all have one place
abbrev pub all_at : Place → List ℕ → List (ℕ × Place)
all_at place text = map (λ (c : ℕ). (c, place)) text

-- without a quotation mark each byte stands outside quotes
abbrev pub TextsWithoutMarks : Type 0
TextsWithoutMarks = (text : List ℕ) → list_any is_quote text ≡ false → (placed text ≡ all_at bare text) × (is_open_at_end text ≡ false)

-- what the first quotation mark opens ends at the next same mark, and what follows is read like a text of its own
abbrev pub QuotesThatEnd : Type 0
QuotesThatEnd =
    (front inside rest : List ℕ) (m : ℕ) → list_any is_quote front ≡ false → is_quote m ≡ true → holds m inside ≡ false
    → (placed (front ++ m ∷ (inside ++ m ∷ rest)) ≡ all_at bare front ++ (m, mark) ∷ (all_at quoted inside ++ (m, mark) ∷ placed rest))
    × (is_open_at_end (front ++ m ∷ (inside ++ m ∷ rest)) ≡ is_open_at_end rest)

-- without a next same mark the quote stays open to the text's end
abbrev pub QuotesThatStayOpen : Type 0
QuotesThatStayOpen =
    (front inside : List ℕ) (m : ℕ) → list_any is_quote front ≡ false → is_quote m ≡ true → holds m inside ≡ false
    → (placed (front ++ m ∷ inside) ≡ all_at bare front ++ (m, mark) ∷ all_at quoted inside)
    × (is_open_at_end (front ++ m ∷ inside) ≡ true)
