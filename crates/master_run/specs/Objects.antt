-- What the objects of a call tell of themselves, each as one value: the ghost members of its trait that the call's contract speaks of.
use Rattle.std.specs.Prelude.{ℕ, Bool, List, Option}
use Rattle.flow_types.specs.Serial.{Function}
use Rattle.flow_types.specs.declared.job.Failure.{Failure}
use Rattle.flow_types.specs.declared.job.Job.{Job}
use Rattle.flow_types.specs.declared.numbers.Amounts.{Amounts}
use Rattle.flow_types.specs.declared.numbers.LinkNo.{LinkNo}
use Rattle.links.specs.declared.passing.Passed.{Passed}
use Rattle.outside.specs.Disk.{Outcomes}
use Rattle.outside.specs.Files.{Files}

-- what commands make of their inputs, and with what they fail
pub record CommandWords : Type 1 where
  pub gives : Function
  pub may_fail : Job → Failure → Type 0

-- what a site tells of itself
pub record SiteWords (D : Type 0) : Type 1 where
  pub tells : Type 0
  pub files : D → Files
  pub may_leave : D → Outcomes
  pub moment : D → ℕ
  pub images_since : D → ℕ → Files → Type 0
  pub count : D → ℕ

-- what a link tells of itself
pub record LinkWords (L : Type 0) : Type 1 where
  pub tells : Type 0
  pub history : L → List Passed
  pub count : L → ℕ
  pub idle_count : L → ℕ
  pub is_closed : L → Bool

-- what a hall and its links tell of themselves
pub record HallWords (D L : Type 0) : Type 1 where
  pub Way : LinkWords L
  pub listens : D → Type 0
  pub given : D → ℕ
  pub got : D → List (Option LinkNo × L)
  pub honest : D → Type 0
  pub sure : D → Type 0
  pub manned : D → Amounts → Type 0
  pub count : D → ℕ
  pub idle_count : D → ℕ

-- what a runner tells of itself, but for the jobs that it tells of
pub record RunnerWords (D : Type 0) : Type 1 where
  pub sure : D → Type 0
  pub count : D → ℕ
  pub failures : D → ℕ

-- what a sink tells of itself
pub record SinkWords (D : Type 0) : Type 1 where
  pub tells : Type 0
  pub bytes : D → List ℕ
  pub count : D → ℕ

-- what a site tells, of the members of `Site`
abbrev pub site_words : {D : Type 0} → Type 0 → (D → Files) → (D → Outcomes) → (D → ℕ) → (D → ℕ → Files → Type 0) → (D → ℕ) → SiteWords D
site_words tells files may_leave moment images_since count = record {
  tells = tells;
  files = files;
  may_leave = may_leave;
  moment = moment;
  images_since = images_since;
  count = count;
}

-- what a link tells, of those of `Link`
abbrev pub link_words : {L : Type 0} → Type 0 → (L → List Passed) → (L → ℕ) → (L → ℕ) → (L → Bool) → LinkWords L
link_words tells history count idle_count is_closed = record {
  tells = tells;
  history = history;
  count = count;
  idle_count = idle_count;
  is_closed = is_closed;
}

-- what a hall tells, of its links' and those of `Hall`
abbrev pub hall_words : {D L : Type 0} → LinkWords L → (D → Type 0) → (D → ℕ) → (D → List (Option LinkNo × L)) → (D → Type 0) → (D → Type 0) → (D → Amounts → Type 0) → (D → ℕ) → (D → ℕ) → HallWords D L
hall_words Way listens given got honest sure manned count idle_count = record {
  Way = Way;
  listens = listens;
  given = given;
  got = got;
  honest = honest;
  sure = sure;
  manned = manned;
  count = count;
  idle_count = idle_count;
}

-- Where a call finds its objects, or leaves them.
pub record Stand (A B C D : Type 0) : Type 0 where
  pub site : A
  pub hall : B
  pub runners : List C
  pub out : D

-- the stand of these objects
abbrev pub stand : {A B C D : Type 0} → A → B → List C → D → Stand A B C D
stand site hall runners out = record { site = site; hall = hall; runners = runners; out = out }
