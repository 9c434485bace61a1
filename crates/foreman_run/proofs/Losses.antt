-- Why links are lost, as more is met.
use Rattle.std.proofs.Common.{◌≡◌, ℕ, Bool, true, false, List, [], ◌∷◌, ◌++◌, refl}
use Rattle.std.specs.Prelude.{◌||◌, ◌&&◌, ◌==◌, not, nat_lt, length}
use Rattle.std.proofs.lemmas.Bool.{eq-eqb}
use Rattle.flow_types.specs.declared.job.Task.{Task}
use Rattle.flow_types.specs.declared.messages.Message.{Message}
use Rattle.flow_types.specs.declared.messages.Message.TheVariants as messages
use Rattle.flow_types.specs.declared.numbers.LinkNo.{LinkNo}
use Rattle.links.specs.Ill.{IsHello}
use Rattle.wq_messages.specs.Heads.{head_of}
use Rattle.foreman_core.specs.Foremen.{most_links}
use Rattle.foreman_core.specs.Members.{Stands}
use Rattle.foreman_core.proofs.Members.{stands_left}
use Rattle.foreman_run.specs.Lost.{IsLostFor, IsMisspoken, Seen, is_hello, refused_by, refused_on}
use Rattle.foreman_run.specs.Lost as loss
use Rattle.foreman_run.specs.Lowers.{IsLost, over}
use Rattle.foreman_run.specs.Met.{Met, above, below, lost, foreman_of, led_by, roll_of, sent_of, was_full}

-- What was misspoken is so where more was asked.
pub misspoken_more : (asked then : Task → Type 0) (up : List ℕ) → ((t : Task) → asked t → then t) → IsMisspoken asked up → IsMisspoken then up
misspoken_more asked then up more (loss.broken ms leaves) = loss.broken ms leaves
misspoken_more asked then up more (loss.stranger none) = loss.stranger none
misspoken_more asked then up more (loss.no_hello m begins other) = loss.no_hello m begins other
misspoken_more asked then up more (loss.hello_again m hello between is begins) = loss.hello_again m hello between is begins
misspoken_more asked then up more (loss.goes_down m carried down) = loss.goes_down m carried down
misspoken_more asked then up more (loss.unfit t m was carried wrong) = loss.unfit t m (more t was) carried wrong

pub lost_for_more : (asked then : Task → Type 0) (full now : Bool) (s : Seen) → ((t : Task) → asked t → then t) → (full ≡ true → now ≡ true) → IsLostFor asked full s → IsLostFor then now s
lost_for_more asked then full now s more on (loss.closed is) = loss.closed is
lost_for_more asked then full now s more on (loss.failed is) = loss.failed is
lost_for_more asked then full now s more on (loss.silent late none) = loss.silent late none
lost_for_more asked then full now s more on (loss.misspoken wrong) = loss.misspoken (misspoken_more asked then _ more wrong)
lost_for_more asked then full now s more on (loss.refuses told begins many) = loss.refuses told begins many
lost_for_more asked then full now s more on (loss.crowded is) = loss.crowded (on is)

or_right : (a b : Bool) → b ≡ true → (a || b) ≡ true
or_right true b is = refl
or_right false b is = is

pub full_more : (cap : ℕ) (met : Met) (past : List Met) (k : LinkNo) → was_full cap k past ≡ true → was_full cap k (met ∷ past) ≡ true
full_more cap (above m) past k is = is
full_more cap (below link m) past k is = or_right _ (was_full cap k past) is
full_more cap (lost link) past k is = is

hello_is : (m : Message) → IsHello m → is_hello m ≡ true
hello_is (messages.Hello total largest cache) is = refl
hello_is (messages.Put key content) is = absurd is
hello_is (messages.Task task) is = absurd is
hello_is (messages.Done attempt outcome) is = absurd is
hello_is (messages.Missing attempt files) is = absurd is
hello_is (messages.Cancel attempt) is = absurd is
hello_is (messages.Unlink key) is = absurd is
hello_is (messages.Totals total largest cache) is = absurd is
hello_is messages.Bye is = absurd is

all_three : (a b c rest : Bool) → a ≡ true → b ≡ true → c ≡ false → ((a && (b && not c)) || rest) ≡ true
all_three true true false rest x y z = refl
all_three true true true rest x y z = absurd (let wrong : ⊥ = cc z in wrong)
all_three true false c rest x y z = absurd (let wrong : ⊥ = cc y in wrong)
all_three false b c rest x y z = absurd (let wrong : ⊥ = cc x in wrong)

-- A hello came over the link while as many workers lived as may.
pub full_now : (cap : ℕ) (past : List Met) (k : LinkNo) (m : Message) → IsHello m → nat_lt (length (foreman_of cap past).links) most_links ≡ false → was_full cap k (below k m ∷ past) ≡ true
full_now cap past k m hello full =
    all_three (k.0 == k.0) (is_hello m) (nat_lt (length (foreman_of cap past).links) most_links) (was_full cap k past) (eq-eqb k.0 k.0 refl) (hello_is m hello) full

-- A link that is lost for a cause is so once more was met.
pub lost_more : (cap : ℕ) (met : Met) (past : List Met) (k : LinkNo) (s : Seen) → IsLost (roll_of cap past) k s → IsLost (roll_of cap (met ∷ past)) k s
lost_more cap met past k s is =
    lost_for_more (λ t. Stands (over k (messages.Task t)) (sent_of cap past)) (λ t. Stands (over k (messages.Task t)) (sent_of cap (met ∷ past))) (was_full cap k past) (was_full cap k (met ∷ past)) s
    (λ t there. stands_left (over k (messages.Task t)) (sent_of cap past) (led_by (foreman_of cap past) met).acts.down there) (full_more cap met past k) is

-- ---- answers that an attempt wasn't run

pub refused_append : (n : ℕ) (ms more : List Message) → refused_on n (ms ++ more) ≡ refused_on (refused_on n ms) more
refused_append n [] more = refl
refused_append n (m ∷ ms) more = refused_append (refused_by n (head_of m)) ms more
