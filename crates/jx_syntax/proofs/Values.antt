-- What is written for a value is read as an expression of that value.
use Rattle.std.proofs.Common.{◌≡◌, ℕ, suc, ◌+◌, ◌-◌, ◌<◌, ◌≤◌, ◌^◌, max, nat_lt, ℤ, pos, negsuc, Bool, true, false, List, [], ◌∷◌, ◌++◌, length, map, Option, Some, None, Ok, inl, inr, refl, sym, ap, subst, ◌∙◌, append_assoc, arith}
use Rattle.std.proofs.lemmas.Bool.Decides.{nat_tests}
use Rattle.std.proofs.lemmas.Bool.{le-ltb, lt-ltb}
use Rattle.std.proofs.lemmas.List.{append-nil, length-append}
use Rattle.std.proofs.lemmas.Str.{IsUtf8-append, IsUtf8-from_ascii, is_utf8-from_IsUtf8}
use Rattle.std.proofs.lemmas.Fmt.{IsAscii-decimal}
use Rattle.std.specs.Prelude.{codes, decimal, option_map}
use Rattle.std.specs.Str.{IsUtf8, is_utf8}
use Rattle.jx_tokens.specs.declared.fault.JxFault.{JxFault}
use Rattle.jx_tokens.specs.declared.fault.JxFault.TheVariants.{TooDeep, TooLarge}
use Rattle.jx_tokens.specs.declared.token.Kind.{Kind}
use Rattle.jx_tokens.specs.declared.token.Kind.TheVariants as kind
use Rattle.jx_tokens.specs.declared.token.Piece.TheVariants as piece
use Rattle.jx_tokens.specs.declared.token.Token.{Token}
use Rattle.jx_tokens.specs.Tokens.{Scan, scan, scan_of, front, mark, name, word}
use Rattle.jx_syntax.specs.declared.operator.Sign.TheVariants as sign
use Rattle.jx_syntax.specs.declared.value.JxValue.{JxValue}
use Rattle.jx_syntax.specs.declared.value.JxValue.TheVariants as value
use Rattle.jx_syntax.specs.declared.value.JxPair.{JxPair}
use Rattle.jx_syntax.specs.Grammar as jx
use Rattle.jx_syntax.specs.Grammar.{Refusal, Derivation, Items, Item, Pairs, IsOfLevel, AreItems, IsItem, ArePairs, nests, items_nest, item_nests, pairs_nest, token, spells, items_spell, item_spells, pairs_spell}
use Rattle.jx_syntax.specs.Tree.{Entries, Fields, no_entries, no_loops, no_fields, entry, field, tree_of, entries_of, entry_of, fields_of}
use Rattle.jx_syntax.specs.Written.{value_text, pair_text, separated, quoted}
use Rattle.jx_syntax.specs.Values.{value_of, items_of, pairs_of, joined, paired, levels, pair_levels, greatest, is_held, pair_is_held, all_hold, in_range}
use Rattle.jx_syntax.specs.ValueLaws.{ValuesAreWritten, ValuesReadBack, DeepValuesAreRefused, LongValuesAreRefused}
use Rattle.jx_syntax.proofs.Writing.{text-list, text-object, text-pair}
use Rattle.jx_syntax.proofs.ValueLayers.{levels-list, levels-object, levels-pair, held-list, held-object, held-pair, null_text, null_levels, truth_text, truth_levels, number_text, plain_levels, minus_levels, number_held, text_text, text_levels, text_held}
use Rattle.jx_syntax.proofs.Scans.{put, token_scans, scan-nil}
use Rattle.jx_syntax.proofs.ReadsBack.{quoted_front, quoted_text_is_utf8, ascii_is_utf8, both_of}
use Rattle.jx_syntax.proofs.Numbers.{IsEnd, goes_on_with_none, decimal_front, decimal_some}
use Rattle.jx_syntax.proofs.Layers.{by_layers}
use Rattle.jx_syntax.proofs.Complete.{unambiguous}
use Rattle.jx_syntax.proofs.TooDeep.{deep_is_refused}
use Rattle.jx_syntax.proofs.Sound.{viable}
use Rattle.jx_syntax.proofs.Decided.{begins}
use Rattle.jx_syntax.specs.Reading.{wants}

-- ---- tokens in front

mark_scans : (b : ℕ) (k : Kind) (at : ℕ) (rest : List ℕ) → front at (b ∷ rest) ≡ Ok (piece.Token k 1) → scan 0 at (b ∷ rest) ≡ put at k (scan 0 (at + 1) rest)
mark_scans b k at rest e = token_scans (b ∷ []) rest k at (omega arith) e

comma_scans : (at : ℕ) (rest : List ℕ) → scan 0 at (44 ∷ rest) ≡ put at kind.Comma (scan 0 (at + 1) rest)
unfolding front mark
comma_scans at rest = mark_scans 44 kind.Comma at rest refl

colon_scans : (at : ℕ) (rest : List ℕ) → scan 0 at (58 ∷ rest) ≡ put at kind.Colon (scan 0 (at + 1) rest)
unfolding front mark
colon_scans at rest = mark_scans 58 kind.Colon at rest refl

minus_scans : (at : ℕ) (rest : List ℕ) → scan 0 at (45 ∷ rest) ≡ put at kind.Minus (scan 0 (at + 1) rest)
unfolding front mark
minus_scans at rest = mark_scans 45 kind.Minus at rest refl

open_list_scans : (at : ℕ) (rest : List ℕ) → scan 0 at (91 ∷ rest) ≡ put at kind.OpenList (scan 0 (at + 1) rest)
unfolding front mark
open_list_scans at rest = mark_scans 91 kind.OpenList at rest refl

close_list_scans : (at : ℕ) (rest : List ℕ) → scan 0 at (93 ∷ rest) ≡ put at kind.CloseList (scan 0 (at + 1) rest)
unfolding front mark
close_list_scans at rest = mark_scans 93 kind.CloseList at rest refl

open_object_scans : (at : ℕ) (rest : List ℕ) → scan 0 at (123 ∷ rest) ≡ put at kind.OpenObject (scan 0 (at + 1) rest)
unfolding front mark
open_object_scans at rest = mark_scans 123 kind.OpenObject at rest refl

close_object_scans : (at : ℕ) (rest : List ℕ) → scan 0 at (125 ∷ rest) ≡ put at kind.CloseObject (scan 0 (at + 1) rest)
unfolding front mark
close_object_scans at rest = mark_scans 125 kind.CloseObject at rest refl

null_front : (at : ℕ) (rest : List ℕ) → IsEnd rest → front at (codes "null" ++ rest) ≡ Ok (piece.Token kind.Null 4)
unfolding front name word
null_front at rest ends = let none = (goes_on_with_none rest ends).letters in rw none refl

true_front : (at : ℕ) (rest : List ℕ) → IsEnd rest → front at (codes "true" ++ rest) ≡ Ok (piece.Token kind.True 4)
unfolding front name word
true_front at rest ends = let none = (goes_on_with_none rest ends).letters in rw none refl

false_front : (at : ℕ) (rest : List ℕ) → IsEnd rest → front at (codes "false" ++ rest) ≡ Ok (piece.Token kind.False 5)
unfolding front name word
false_front at rest ends = let none = (goes_on_with_none rest ends).letters in rw none refl

-- ---- one value

-- an expression's tokens before what is scanned behind it
abbrev spelled : Derivation → Scan → Scan
spelled d s = record { tokens = spells d s.tokens; fault = s.fault }

-- this text at this place is scanned as the expression, whatever may follow a value
abbrev Scans : List ℕ → ℕ → Derivation → Type 0
Scans text at d = (rest : List ℕ) → IsEnd rest → scan 0 at (text ++ rest) ≡ spelled d (scan 0 (at + length text) rest)

-- the expression that the text of a value is where it stands at this place
record Reads (v : JxValue) (at : ℕ) : Type 0 where
  expression : Derivation
  level : IsOfLevel 1 expression
  nesting : nests expression ≡ levels v
  says : value_of (tree_of expression) ≡ Some v
  utf8 : IsUtf8 (value_text v)
  scans : Scans (value_text v) at expression

read_as : (v : JxValue) (at : ℕ) (text : List ℕ) (d : Derivation) → value_text v ≡ text → IsOfLevel 1 d → nests d ≡ levels v → value_of (tree_of d) ≡ Some v → IsUtf8 text → Scans text at d → Reads v at
read_as v at text d e l n w u s = record {
  expression = d;
  level = l;
  nesting = n;
  says = w;
  utf8 = subst IsUtf8 (sym e) u;
  scans = subst (λ (x : List ℕ). Scans x at d) (sym e) s;
}

null_reads : (at : ℕ) → Reads value.Null at
null_reads at =
    read_as value.Null at (codes "null") (jx.literal at jx.null) null_text tt (sym null_levels) refl
    (ascii_is_utf8 (codes "null") (omega arith, (omega arith, (omega arith, (omega arith, tt)))))
    (λ rest ends. token_scans (codes "null") rest kind.Null at (omega arith) (null_front at rest ends))

truth_reads : (b : Bool) (at : ℕ) → Reads (value.Truth b) at
truth_reads true at =
    read_as (value.Truth true) at (codes "true") (jx.literal at (jx.truth true)) (truth_text true) tt (sym (truth_levels true)) refl
    (ascii_is_utf8 (codes "true") (omega arith, (omega arith, (omega arith, (omega arith, tt)))))
    (λ rest ends. token_scans (codes "true") rest kind.True at (omega arith) (true_front at rest ends))
truth_reads false at =
    read_as (value.Truth false) at (codes "false") (jx.literal at (jx.truth false)) (truth_text false) tt (sym (truth_levels false)) refl
    (ascii_is_utf8 (codes "false") (omega arith, (omega arith, (omega arith, (omega arith, (omega arith, tt))))))
    (λ rest ends. token_scans (codes "false") rest kind.False at (omega arith) (false_front at rest ends))

text_reads : (t : List ℕ) → is_utf8 t ≡ true → (at : ℕ) → Reads (value.Text t) at
text_reads t u at =
    let some : 0 < length (quoted t) = omega arith in
    read_as (value.Text t) at (quoted t) (jx.literal at (jx.text t)) (text_text t) tt (sym (text_levels t)) refl (quoted_text_is_utf8 t u)
    (λ rest ends. token_scans (quoted t) rest (kind.Text t) at some (quoted_front t rest at u))

-- ---- numbers

decimal_is_utf8 : (n : ℕ) → n ≤ 2 ^ 63 → IsUtf8 (decimal n)
decimal_is_utf8 n le = IsUtf8-from_ascii (decimal n) (IsAscii-decimal n (omega arith))

plain_reads : (n : ℕ) → n < 2 ^ 63 → (at : ℕ) → Reads (value.Number (pos n)) at
plain_reads n lt at =
    let le : n ≤ 2 ^ 63 = omega arith in
    read_as (value.Number (pos n)) at (decimal n) (jx.literal at (jx.number n)) (number_text (pos n)) lt (sym (plain_levels n)) refl (decimal_is_utf8 n le)
    (λ rest ends. token_scans (decimal n) rest (kind.Number n) at (decimal_some n le) (decimal_front n at rest le ends))

minus_tokens : (n at : ℕ) (rest : List ℕ) → suc n ≤ 2 ^ 63 → IsEnd rest
    → scan 0 at ((45 ∷ decimal (suc n)) ++ rest) ≡ put at kind.Minus (put (at + 1) (kind.Number (suc n)) (scan 0 (at + length (45 ∷ decimal (suc n))) rest))
minus_tokens n at rest le ends =
    let d = decimal (suc n) in
    let there : at + 1 + length d ≡ at + suc (length d) = omega arith in
    minus_scans at (d ++ rest)
    ∙ ap (put at kind.Minus) (token_scans d rest (kind.Number (suc n)) (at + 1) (decimal_some (suc n) le) (decimal_front (suc n) (at + 1) rest le ends)
    ∙ ap (λ m. put (at + 1) (kind.Number (suc n)) (scan 0 m rest)) there)

minus_is_utf8 : (n : ℕ) → suc n ≤ 2 ^ 63 → IsUtf8 (45 ∷ decimal (suc n))
minus_is_utf8 n le = IsUtf8-append (45 ∷ []) (decimal (suc n)) (ascii_is_utf8 (45 ∷ []) (omega arith, tt)) (decimal_is_utf8 (suc n) le)

is_below : (a b : ℕ) → nat_lt a b ≡ true → a < b
is_below a b e = grind (arith, nat_tests)

minus_reads : (n : ℕ) → n < 2 ^ 63 → (at : ℕ) → Reads (value.Number (negsuc n)) at
minus_reads n lt at = pick (nat_lt (suc n) (2 ^ 63)) refl
  where
    le : suc n ≤ 2 ^ 63
    le = omega (arith, lt)

    pick : (b : Bool) → nat_lt (suc n) (2 ^ 63) ≡ b → Reads (value.Number (negsuc n)) at
    pick true e =
        read_as (value.Number (negsuc n)) at (45 ∷ decimal (suc n)) (jx.signed at sign.Minus (jx.literal (at + 1) (jx.number (suc n)))) (number_text (negsuc n))
        (omega arith, is_below (suc n) (2 ^ 63) e) (sym (minus_levels n)) refl (minus_is_utf8 n le) (λ rest ends. minus_tokens n at rest le ends)
    pick false e =
        let least : suc n ≡ 2 ^ 63 = grind (arith, nat_tests) in
        let same : 2 ^ 63 - 1 ≡ n = omega arith in
        read_as (value.Number (negsuc n)) at (45 ∷ decimal (suc n)) (jx.least at (at + 1)) (number_text (negsuc n))
        tt (sym (minus_levels n)) (ap (λ m. Some (value.Number (negsuc m))) same) (minus_is_utf8 n le)
        (λ rest ends. minus_tokens n at rest le ends ∙ ap (λ m. put at kind.Minus (put (at + 1) (kind.Number m) (scan 0 (at + length (45 ∷ decimal (suc n))) rest))) least)

number_reads : (z : ℤ) → in_range z ≡ true → (at : ℕ) → Reads (value.Number z) at
number_reads (pos n) h at = plain_reads n (is_below n (2 ^ 63) h) at
number_reads (negsuc n) h at = minus_reads n (is_below n (2 ^ 63) h) at

-- ---- lists

-- each of them is read as an expression of it
abbrev AllRead : List JxValue → Type 0
AllRead [] = Unit {0}
AllRead (v ∷ vs) = ((at : ℕ) → Reads v at) × AllRead vs

-- values with commas between them, behind items that were read, before the bracket that closes
record ReadsItems (before : Items) (vs : List JxValue) (at : ℕ) : Type 0 where
  items : Items
  last : Item
  are : AreItems before → AreItems items
  is : IsItem last
  nesting : max (items_nest items) (item_nests last) ≡ max (items_nest before) (greatest (map levels vs))
  own : Entries
  says : items_of own ≡ Some vs
  entries : entries_of items (entry_of last no_loops no_entries) ≡ entries_of before own
  utf8 : IsUtf8 (separated (map value_text vs))
  tokens : (rest : List ℕ) → items_spell before (scan 0 at (separated (map value_text vs) ++ 93 ∷ rest)).tokens
      ≡ items_spell items (item_spells last (scan 0 (at + length (separated (map value_text vs))) (93 ∷ rest)).tokens)
  fault : (rest : List ℕ) → (scan 0 at (separated (map value_text vs) ++ 93 ∷ rest)).fault ≡ (scan 0 (at + length (separated (map value_text vs))) (93 ∷ rest)).fault

mark_is_utf8 : (b : ℕ) (xs : List ℕ) → b < 128 → IsUtf8 xs → IsUtf8 (b ∷ xs)
mark_is_utf8 b xs lt u = IsUtf8-append (b ∷ []) xs (ascii_is_utf8 (b ∷ []) (lt, tt)) u

one_more : (m a b c : ℕ) → m ≡ max (max a b) c → m ≡ max a (max b c)
one_more m a b c h = omega (arith, h)

items_read : (v : JxValue) (vs : List JxValue) (before : Items) (at : ℕ) → ((at : ℕ) → Reads v at) → AllRead vs → ReadsItems before (v ∷ vs) at
items_read v [] before at r rs =
    let x = r at in
    let scanned : (rest : List ℕ) → scan 0 at (value_text v ++ 93 ∷ rest) ≡ spelled x.expression (scan 0 (at + length (value_text v)) (93 ∷ rest)) = λ rest. x.scans (93 ∷ rest) (inr (inl refl)) in
    record {
      items = before;
      last = jx.once x.expression;
      are = λ a. a;
      is = x.level;
      nesting = omega (arith, x.nesting);
      own = entry (tree_of x.expression) no_loops no_entries;
      says = ap (λ (o : Option JxValue). joined o (Some [])) x.says;
      entries = refl;
      utf8 = x.utf8;
      tokens = λ rest. ap (λ (s : Scan). items_spell before s.tokens) (scanned rest);
      fault = λ rest. ap (λ (s : Scan). s.fault) (scanned rest);
    }
items_read v (w ∷ ws) before at r rs =
    let x = r at in
    let comma = at + length (value_text v) in
    let next = jx.item before (jx.once x.expression) comma in
    let m = items_read w ws next (comma + 1) rs.0 rs.1 in
    let more = separated (map value_text (w ∷ ws)) in
    let there : comma + 1 + length more ≡ at + length (value_text v ++ 44 ∷ more) = omega (arith, length-append (value_text v) (44 ∷ more)) in
    let scanned : (rest : List ℕ) → scan 0 at ((value_text v ++ 44 ∷ more) ++ 93 ∷ rest) ≡ spelled x.expression (put comma kind.Comma (scan 0 (comma + 1) (more ++ 93 ∷ rest))) =
    λ rest. ap (scan 0 at) (append_assoc (value_text v) (44 ∷ more) (93 ∷ rest)) ∙ x.scans (44 ∷ (more ++ 93 ∷ rest)) (inl refl)
    ∙ ap (spelled x.expression) (comma_scans comma (more ++ 93 ∷ rest)) in
    record {
      items = m.items;
      last = m.last;
      are = λ a. m.are (a, x.level);
      is = m.is;
      nesting = one_more _ (items_nest before) (levels v) _ (m.nesting ∙ ap (λ n. max (max (items_nest before) n) (greatest (map levels (w ∷ ws)))) x.nesting);
      own = entry (tree_of x.expression) no_loops m.own;
      says = ap (λ (o : Option JxValue). joined o (items_of m.own)) x.says ∙ ap (joined (Some v)) m.says;
      entries = m.entries;
      utf8 = IsUtf8-append (value_text v) (44 ∷ more) x.utf8 (mark_is_utf8 44 more (omega arith) m.utf8);
      tokens = λ rest. ap (λ (s : Scan). items_spell before s.tokens) (scanned rest) ∙ m.tokens rest
          ∙ ap (λ n. items_spell m.items (item_spells m.last (scan 0 n (93 ∷ rest)).tokens)) there;
      fault = λ rest. ap (λ (s : Scan). s.fault) (scanned rest) ∙ m.fault rest ∙ ap (λ n. (scan 0 n (93 ∷ rest)).fault) there;
    }

same_scan : (ts us : List Token) (s t : Scan) → ts ≡ us → s.fault ≡ t.fault
    → (let a : Scan = record { tokens = ts; fault = s.fault } in a) ≡ (let b : Scan = record { tokens = us; fault = t.fault } in b)
same_scan ts us s t e f = cc

empty_list_scans : (at : ℕ) → Scans (91 ∷ 93 ∷ []) at (jx.list at jx.no_items (at + 1))
empty_list_scans at rest ends =
    let there : at + 1 + 1 ≡ at + 2 = omega arith in
    open_list_scans at (93 ∷ rest) ∙ ap (put at kind.OpenList) (close_list_scans (at + 1) rest)
    ∙ ap (λ n. put at kind.OpenList (put (at + 1) kind.CloseList (scan 0 n rest))) there

list_scans : (vs : List JxValue) (at : ℕ) (m : ReadsItems jx.no_items vs (at + 1))
    → Scans (91 ∷ (separated (map value_text vs) ++ 93 ∷ [])) at (jx.list_last at m.items m.last (at + 1 + length (separated (map value_text vs))))
list_scans vs at m rest ends =
    let all = separated (map value_text vs) in
    let to = at + 1 + length all in
    let there : to + 1 ≡ at + length (91 ∷ (all ++ 93 ∷ [])) = omega (arith, length-append all (93 ∷ [])) in
    let closed : scan 0 to (93 ∷ rest) ≡ put to kind.CloseList (scan 0 (at + length (91 ∷ (all ++ 93 ∷ []))) rest) =
    close_list_scans to rest ∙ ap (λ n. put to kind.CloseList (scan 0 n rest)) there in
    ap (λ bs. scan 0 at (91 ∷ bs)) (append_assoc all (93 ∷ []) rest) ∙ open_list_scans at (all ++ 93 ∷ rest)
    ∙ same_scan _ _ (scan 0 (at + 1) (all ++ 93 ∷ rest)) (scan 0 (at + length (91 ∷ (all ++ 93 ∷ []))) rest)
    (ap (λ ts. token at kind.OpenList ∷ ts) (m.tokens rest ∙ ap (λ (s : Scan). items_spell m.items (item_spells m.last s.tokens)) closed))
    (m.fault rest ∙ ap (λ (s : Scan). s.fault) closed)

list_reads : (vs : List JxValue) → AllRead vs → (at : ℕ) → Reads (value.List vs) at
list_reads [] rs at =
    read_as (value.List []) at (91 ∷ 93 ∷ []) (jx.list at jx.no_items (at + 1)) (text-list []) tt (sym (levels-list [])) refl
    (ascii_is_utf8 (91 ∷ 93 ∷ []) (omega arith, (omega arith, tt))) (empty_list_scans at)
list_reads (v ∷ vs) rs at =
    let m = items_read v vs jx.no_items (at + 1) rs.0 rs.1 in
    let all = separated (map value_text (v ∷ vs)) in
    let most : max (items_nest m.items) (item_nests m.last) ≡ greatest (map levels (v ∷ vs)) = omega (arith, m.nesting) in
    read_as (value.List (v ∷ vs)) at (91 ∷ (all ++ 93 ∷ [])) (jx.list_last at m.items m.last (at + 1 + length all)) (text-list (v ∷ vs)) (m.are tt, m.is)
    (ap (λ n. suc n) most ∙ sym (levels-list (v ∷ vs)))
    (ap (λ (es : Entries). option_map value.List (items_of es)) m.entries ∙ ap (option_map value.List) m.says)
    (mark_is_utf8 91 (all ++ 93 ∷ []) (omega arith) (IsUtf8-append all (93 ∷ []) m.utf8 (ascii_is_utf8 (93 ∷ []) (omega arith, tt))))
    (list_scans (v ∷ vs) at m)

-- ---- objects

-- a pair whose value is read wherever it stands
abbrev IsRead : JxPair → Type 0
IsRead p = (is_utf8 p.key ≡ true) × ((at : ℕ) → Reads p.value at)

abbrev AllPairsRead : List JxPair → Type 0
AllPairsRead [] = Unit {0}
AllPairsRead (p ∷ ps) = IsRead p × AllPairsRead ps

-- pairs with commas between them, behind pairs that were read, before the brace that closes
record ReadsPairs (before : Pairs) (ps : List JxPair) (at : ℕ) : Type 0 where
  pairs : Pairs
  place : ℕ
  key : List ℕ
  colon : ℕ
  last : Derivation
  are : ArePairs before → ArePairs pairs
  level : IsOfLevel 1 last
  nesting : max (pairs_nest pairs) (nests last) ≡ max (pairs_nest before) (greatest (map pair_levels ps))
  own : Fields
  says : pairs_of own ≡ Some ps
  fields : fields_of pairs (field key (tree_of last) no_fields) ≡ fields_of before own
  utf8 : IsUtf8 (separated (map pair_text ps))
  tokens : (rest : List ℕ) → pairs_spell before (scan 0 at (separated (map pair_text ps) ++ 125 ∷ rest)).tokens
      ≡ pairs_spell pairs (token place (kind.Text key) ∷ token colon kind.Colon ∷ spells last (scan 0 (at + length (separated (map pair_text ps))) (125 ∷ rest)).tokens)
  fault : (rest : List ℕ) → (scan 0 at (separated (map pair_text ps) ++ 125 ∷ rest)).fault ≡ (scan 0 (at + length (separated (map pair_text ps))) (125 ∷ rest)).fault

-- where the colon of a pair stands that begins at this place
abbrev colon_of : JxPair → ℕ → ℕ
colon_of p at = at + length (quoted p.key)

pair_scans : (p : JxPair) (at : ℕ) → is_utf8 p.key ≡ true → (x : Reads p.value (colon_of p at + 1)) → (rest : List ℕ) → IsEnd rest
    → scan 0 at (pair_text p ++ rest) ≡ put at (kind.Text p.key) (put (colon_of p at) kind.Colon (spelled x.expression (scan 0 (at + length (pair_text p)) rest)))
pair_scans p at u x rest ends =
    let key = quoted p.key in
    let value_ = value_text p.value in
    let some : 0 < length key = omega arith in
    let there : colon_of p at + 1 + length value_ ≡ at + length (key ++ 58 ∷ value_) = omega (arith, length-append key (58 ∷ value_)) in
    let size : at + length (key ++ 58 ∷ value_) ≡ at + length (pair_text p) = ap (λ (t : List ℕ). at + length t) (sym (text-pair p)) in
    ap (λ (t : List ℕ). scan 0 at (t ++ rest)) (text-pair p) ∙ ap (scan 0 at) (append_assoc key (58 ∷ value_) rest)
    ∙ token_scans key (58 ∷ (value_ ++ rest)) (kind.Text p.key) at some (quoted_front p.key (58 ∷ (value_ ++ rest)) at u)
    ∙ ap (put at (kind.Text p.key)) (colon_scans (colon_of p at) (value_ ++ rest) ∙ ap (put (colon_of p at) kind.Colon) (x.scans rest ends
    ∙ ap (λ n. spelled x.expression (scan 0 n rest)) (there ∙ size)))

pair_is_utf8 : (p : JxPair) (at : ℕ) → is_utf8 p.key ≡ true → Reads p.value at → IsUtf8 (pair_text p)
pair_is_utf8 p at u x =
    subst IsUtf8 (sym (text-pair p)) (IsUtf8-append (quoted p.key) (58 ∷ value_text p.value) (quoted_text_is_utf8 p.key u) (mark_is_utf8 58 (value_text p.value) (omega arith) x.utf8))

pairs_read : (p : JxPair) (ps : List JxPair) (before : Pairs) (at : ℕ) → IsRead p → AllPairsRead ps → ReadsPairs before (p ∷ ps) at
pairs_read p [] before at r rs =
    let colon_ = colon_of p at in
    let x = r.1 (colon_ + 1) in
    let depth : nests x.expression ≡ pair_levels p = x.nesting ∙ sym (levels-pair p) in
    let scanned : (rest : List ℕ) → scan 0 at (pair_text p ++ 125 ∷ rest)
    ≡ put at (kind.Text p.key) (put colon_ kind.Colon (spelled x.expression (scan 0 (at + length (pair_text p)) (125 ∷ rest)))) =
    λ rest. pair_scans p at r.0 x (125 ∷ rest) (inr (inr refl)) in
    record {
      pairs = before;
      place = at;
      key = p.key;
      colon = colon_;
      last = x.expression;
      are = λ a. a;
      level = x.level;
      nesting = omega (arith, depth);
      own = field p.key (tree_of x.expression) no_fields;
      says = ap (λ (o : Option JxValue). joined (paired p.key o) (Some [])) x.says;
      fields = refl;
      utf8 = pair_is_utf8 p (colon_ + 1) r.0 x;
      tokens = λ rest. ap (λ (s : Scan). pairs_spell before s.tokens) (scanned rest);
      fault = λ rest. ap (λ (s : Scan). s.fault) (scanned rest);
    }
pairs_read p (q ∷ qs) before at r rs =
    let colon_ = colon_of p at in
    let x = r.1 (colon_ + 1) in
    let depth : nests x.expression ≡ pair_levels p = x.nesting ∙ sym (levels-pair p) in
    let comma = at + length (pair_text p) in
    let next = jx.pair before at p.key colon_ x.expression comma in
    let m = pairs_read q qs next (comma + 1) rs.0 rs.1 in
    let more = separated (map pair_text (q ∷ qs)) in
    let there : comma + 1 + length more ≡ at + length (pair_text p ++ 44 ∷ more) = omega (arith, length-append (pair_text p) (44 ∷ more)) in
    let scanned : (rest : List ℕ) → scan 0 at ((pair_text p ++ 44 ∷ more) ++ 125 ∷ rest)
    ≡ put at (kind.Text p.key) (put colon_ kind.Colon (spelled x.expression (put comma kind.Comma (scan 0 (comma + 1) (more ++ 125 ∷ rest))))) =
    λ rest. ap (scan 0 at) (append_assoc (pair_text p) (44 ∷ more) (125 ∷ rest)) ∙ pair_scans p at r.0 x (44 ∷ (more ++ 125 ∷ rest)) (inl refl)
    ∙ ap (λ (s : Scan). put at (kind.Text p.key) (put colon_ kind.Colon (spelled x.expression s))) (comma_scans comma (more ++ 125 ∷ rest)) in
    record {
      pairs = m.pairs;
      place = m.place;
      key = m.key;
      colon = m.colon;
      last = m.last;
      are = λ a. m.are (a, x.level);
      level = m.level;
      nesting = one_more _ (pairs_nest before) (pair_levels p) _ (m.nesting ∙ ap (λ n. max (max (pairs_nest before) n) (greatest (map pair_levels (q ∷ qs)))) depth);
      own = field p.key (tree_of x.expression) m.own;
      says = ap (λ (o : Option JxValue). joined (paired p.key o) (pairs_of m.own)) x.says ∙ ap (joined (Some p)) m.says;
      fields = m.fields;
      utf8 = IsUtf8-append (pair_text p) (44 ∷ more) (pair_is_utf8 p (colon_ + 1) r.0 x) (mark_is_utf8 44 more (omega arith) m.utf8);
      tokens = λ rest. ap (λ (s : Scan). pairs_spell before s.tokens) (scanned rest) ∙ m.tokens rest
          ∙ ap (λ n. pairs_spell m.pairs (token m.place (kind.Text m.key) ∷ token m.colon kind.Colon ∷ spells m.last (scan 0 n (125 ∷ rest)).tokens)) there;
      fault = λ rest. ap (λ (s : Scan). s.fault) (scanned rest) ∙ m.fault rest ∙ ap (λ n. (scan 0 n (125 ∷ rest)).fault) there;
    }

empty_object_scans : (at : ℕ) → Scans (123 ∷ 125 ∷ []) at (jx.object at jx.no_pairs (at + 1))
empty_object_scans at rest ends =
    let there : at + 1 + 1 ≡ at + 2 = omega arith in
    open_object_scans at (125 ∷ rest) ∙ ap (put at kind.OpenObject) (close_object_scans (at + 1) rest)
    ∙ ap (λ n. put at kind.OpenObject (put (at + 1) kind.CloseObject (scan 0 n rest))) there

object_scans : (ps : List JxPair) (at : ℕ) (m : ReadsPairs jx.no_pairs ps (at + 1))
    → Scans (123 ∷ (separated (map pair_text ps) ++ 125 ∷ [])) at (jx.object_last at m.pairs m.place m.key m.colon m.last (at + 1 + length (separated (map pair_text ps))))
object_scans ps at m rest ends =
    let all = separated (map pair_text ps) in
    let to = at + 1 + length all in
    let there : to + 1 ≡ at + length (123 ∷ (all ++ 125 ∷ [])) = omega (arith, length-append all (125 ∷ [])) in
    let closed : scan 0 to (125 ∷ rest) ≡ put to kind.CloseObject (scan 0 (at + length (123 ∷ (all ++ 125 ∷ []))) rest) =
    close_object_scans to rest ∙ ap (λ n. put to kind.CloseObject (scan 0 n rest)) there in
    ap (λ bs. scan 0 at (123 ∷ bs)) (append_assoc all (125 ∷ []) rest) ∙ open_object_scans at (all ++ 125 ∷ rest)
    ∙ same_scan _ _ (scan 0 (at + 1) (all ++ 125 ∷ rest)) (scan 0 (at + length (123 ∷ (all ++ 125 ∷ []))) rest)
    (ap (λ ts. token at kind.OpenObject ∷ ts) (m.tokens rest
    ∙ ap (λ (s : Scan). pairs_spell m.pairs (token m.place (kind.Text m.key) ∷ token m.colon kind.Colon ∷ spells m.last s.tokens)) closed))
    (m.fault rest ∙ ap (λ (s : Scan). s.fault) closed)

object_reads : (ps : List JxPair) → AllPairsRead ps → (at : ℕ) → Reads (value.Object ps) at
object_reads [] rs at =
    read_as (value.Object []) at (123 ∷ 125 ∷ []) (jx.object at jx.no_pairs (at + 1)) (text-object []) tt (sym (levels-object [])) refl
    (ascii_is_utf8 (123 ∷ 125 ∷ []) (omega arith, (omega arith, tt))) (empty_object_scans at)
object_reads (p ∷ ps) rs at =
    let m = pairs_read p ps jx.no_pairs (at + 1) rs.0 rs.1 in
    let all = separated (map pair_text (p ∷ ps)) in
    let most : max (pairs_nest m.pairs) (nests m.last) ≡ greatest (map pair_levels (p ∷ ps)) = omega (arith, m.nesting) in
    read_as (value.Object (p ∷ ps)) at (123 ∷ (all ++ 125 ∷ [])) (jx.object_last at m.pairs m.place m.key m.colon m.last (at + 1 + length all)) (text-object (p ∷ ps)) (m.are tt, m.level)
    (ap (λ n. suc n) most ∙ sym (levels-object (p ∷ ps)))
    (ap (λ (fs : Fields). option_map value.Object (pairs_of fs)) m.fields ∙ ap (option_map value.Object) m.says)
    (mark_is_utf8 123 (all ++ 125 ∷ []) (omega arith) (IsUtf8-append all (125 ∷ []) m.utf8 (ascii_is_utf8 (125 ∷ []) (omega arith, tt))))
    (object_scans (p ∷ ps) at m)

-- ---- every value

-- a value that can be held is read wherever it stands
abbrev IsReadable : JxValue → Type 0
IsReadable v = is_held v ≡ true → (at : ℕ) → Reads v at

abbrev PairIsReadable : JxPair → Type 0
PairIsReadable p = pair_is_held p ≡ true → IsRead p

all_read : (es : List ((v : JxValue) × IsReadable v)) → all_hold (map is_held (map (λ e. e.0) es)) ≡ true → AllRead (map (λ e. e.0) es)
all_read [] h = tt
all_read (e ∷ es) h = let b = both_of (is_held e.0) (all_hold (map is_held (map (λ e. e.0) es))) h in (e.1 b.0, all_read es b.1)

all_pairs_read : (es : List ((p : JxPair) × PairIsReadable p)) → all_hold (map pair_is_held (map (λ e. e.0) es)) ≡ true → AllPairsRead (map (λ e. e.0) es)
all_pairs_read [] h = tt
all_pairs_read (e ∷ es) h = let b = both_of (pair_is_held e.0) (all_hold (map pair_is_held (map (λ e. e.0) es))) h in (e.1 b.0, all_pairs_read es b.1)

readable : (v : JxValue) → IsReadable v
readable = by_layers IsReadable PairIsReadable
    (λ h at. null_reads at)
    (λ b h at. truth_reads b at)
    (λ z h at. number_reads z (sym (number_held z) ∙ h) at)
    (λ t h at. text_reads t (sym (text_held t) ∙ h) at)
    (λ es h at. list_reads (map (λ e. e.0) es) (all_read es (sym (held-list (map (λ e. e.0) es)) ∙ h)) at)
    (λ es h at. object_reads (map (λ e. e.0) es) (all_pairs_read es (sym (held-object (map (λ e. e.0) es)) ∙ h)) at)
    (λ key v r h. let p : JxPair = record { key = key; value = v } in
    let b = both_of (is_utf8 key) (is_held v) (sym (held-pair p) ∙ h) in (b.0, λ at. r b.1 at))

-- ---- whole texts

whole_text : (v : JxValue) (x : Reads v 0) → length (value_text v) ≤ 16777216 → scan_of (value_text v) ≡ record { tokens = spells x.expression []; fault = None }
unfolding scan_of
whole_text v x le =
    let t = value_text v in
    let good : is_utf8 t ≡ true = is_utf8-from_IsUtf8 t x.utf8 in
    let small : nat_lt 16777216 (length t) ≡ false = le-ltb 16777216 (length t) le in
    rw (small, good) (ap (scan 0 0) (sym (append-nil t)) ∙ x.scans [] tt ∙ ap (spelled x.expression) (scan-nil (0 + length t)))

pub values-are_written : ValuesAreWritten
values-are_written v h within =
    let x = readable v h 0 in
    let s = whole_text v x within.0 in
    (x.expression, ((record { level = x.level; nesting = omega (arith, x.nesting, within.1) }, ap (λ (s : Scan). s.tokens) (sym s)), ap (λ (s : Scan). s.fault) s))

is_one : (e : JxFault) (o : Option JxFault) → o ≡ None → o ≡ Some e → ⊥
is_one e o none some = cc

-- a text that has tokens alone is within the limit
short : (text : List ℕ) → (scan_of text).fault ≡ None → length text ≤ 16777216
unfolding scan_of
short text e = pick (nat_lt 16777216 (length text)) refl
  where
    pick : (b : Bool) → nat_lt 16777216 (length text) ≡ b → length text ≤ 16777216
    pick true long =
        let large : (scan_of text).fault ≡ Some TooLarge = rw long refl in
        absurd (is_one TooLarge (scan_of text).fault e large)
    pick false fits = grind (arith, nat_tests)

most_of : (a b : ℕ) → (a ≤ max a b) × (b ≤ max a b)
most_of a b = (omega arith, omega arith)

pub values-read_back : ValuesReadBack
values-read_back v d h w =
    let x = readable v h 0 in
    let fits = short (value_text v) w.1 in
    let s = whole_text v x fits in
    let most = most_of 128 (nests x.expression) in
    let limit = max 128 (nests x.expression) in
    let same : x.expression ≡ d = unambiguous limit x.expression d (record { level = x.level; nesting = most.1 }) (record { level = w.0.0.level; nesting = omega (arith, w.0.0.nesting, most.0) })
    (ap (λ (s : Scan). s.tokens) (sym s) ∙ sym w.0.1) in
    let deep : levels v ≤ 128 = omega (arith, x.nesting, ap nests same, w.0.0.nesting) in
    ((fits, deep), ap (λ (e : Derivation). value_of (tree_of e)) (sym same) ∙ x.says)

pub deep-values_are_refused : DeepValuesAreRefused
deep-values_are_refused v h fits deep =
    let x = readable v h 0 in
    let d = x.expression in
    let s = whole_text v x fits in
    let r = deep_is_refused (nests d) (length (value_text v)) d (record { level = x.level; nesting = omega arith }) (omega (arith, x.nesting, deep)) in
    (r.0, subst (λ (s : Scan). Refusal (length (value_text v)) s.tokens s.fault (TooDeep r.0)) (sym s) r.1)

pub long-values_are_refused : LongValuesAreRefused
unfolding scan_of
long-values_are_refused v long =
    let large : nat_lt 16777216 (length (value_text v)) ≡ true = lt-ltb 16777216 (length (value_text v)) long in
    rw large (inl (viable 128 (wants []) begins.good begins.nesting, refl))
