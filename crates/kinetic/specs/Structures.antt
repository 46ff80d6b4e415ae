-- What a kinetic structure means, what it shows, and what each of its calls does.
use Rattle.std.specs.Prelude.{◌≡◌, ℕ, ◌<◌, ◌≤◌, true, false, not, List, [], ◌∷◌, is_some, Some, None, Ok, Err, Option, Result, ◌≢◌, nat_eq, nat_le}
use Rattle.event_queue.specs.Refusals.{◌when◌, topmost}
use Rattle.event_queue.specs.Queues.{count_below}
use Rattle.fairway.specs.Times.{Time, Proper, ◌≤ᵗ◌}
use Rattle.fairway.specs.Courses.{InRange, Due}
use Rattle.fairway.specs.Behind.{behind}
use Rattle.fairway.specs.Standing.{InOrderOrDue, NotLevelBefore}
use Rattle.fairway.specs.declared.course.Course.{Course}
use Rattle.kinetic.specs.Limits.{out_of_range, due}
use Rattle.kinetic.specs.Numbers.{among}
use Rattle.kinetic.specs.declared.numbers.Numbers.{Numbers}
use Rattle.kinetic.specs.declared.refusal.Refusal.{Refusal}
use Rattle.kinetic.specs.declared.refusal.Refusal.TheVariants.{NumberZero, OutOfRange, AlreadyAboard, Full, UnknownVessel, NotDue}

-- The meaning of a structure of the type S.
pub record Meaning (S : Type 0) : Type 1 where
  -- the structure's own condition at a time: it stands
  pub standing : Time → S → Type 0
  -- the course of each vessel number, or none
  pub roster : S → ℕ → Option Course
  -- how many vessels are aboard
  pub count : S → ℕ
  -- the number of the foremost vessel, or none
  pub foremost : S → Option ℕ
  -- a measure that each mend lowers
  pub load : S → ℕ
  -- the pair of each certificate number, rear first, or none
  pub certificate : S → ℕ → Option (Course × Course)
  -- what a mend of the pair rear, front makes of a structure, beyond what every mend does
  pub mended : Course → Course → S → S → Type 0

-- how many vessel numbers have a course
unfoldable pub vessels : (ℕ → Option Course) → ℕ
vessels roster = count_below (λ n. is_some (roster n)) 65536

-- in front of all others of a roster at t; none on an empty roster
abbrev pub Front : Time → (ℕ → Option Course) → Option ℕ → Type 0
Front t roster None = (n : ℕ) → roster n ≡ None
Front t roster (Some v) =
    (c : Course) × (roster v ≡ Some c) ×
    ((n : ℕ) (d : Course) → (n ≢ v) → roster n ≡ Some d → behind t d c ≡ true)

-- what is known of a vessel aboard
pub record Aboard (n : ℕ) (c : Course) : Type 0 where
  pub number : c.number ≡ n
  pub fits : n < 65536
  pub in_range : InRange c

module _ {S : Type 0} (m : Meaning S) where
  -- P of each certificate
  abbrev pub EachCertificate : (Course → Course → Type 0) → S → Type 0
  EachCertificate P s = (i : ℕ) (rear front : Course) → m.certificate s i ≡ Some (rear, front) → P rear front

  -- no certificate is due
  abbrev pub NoneDue : Time → S → Type 0
  NoneDue t = EachCertificate (λ rear front. Due t rear front → ⊥)

  -- standing with none due
  abbrev pub Rests : Time → S → Type 0
  Rests t s = m.standing t s × NoneDue t s

  -- ---- what a structure shows, of proper times: those with a denominator above 0

  -- standing, each certificate is in order or due
  abbrev pub InOrder : Type 0
  InOrder = (t : Time) (s : S) → Proper t → m.standing t s → EachCertificate (InOrderOrDue t) s

  -- resting, the foremost is in front of all others
  abbrev pub InFront : Type 0
  InFront = (t : Time) (s : S) → Proper t → Rests t s → Front t (m.roster s) (m.foremost s)

  -- it stands on until a certificate draws level
  abbrev pub Lasting : Type 0
  Lasting =
      (t u : Time) (s : S) → Proper t → Proper u → t ≤ᵗ u →
      m.standing t s → EachCertificate (NotLevelBefore u) s → m.standing u s

  -- standing with a certificate due, it has a load, which the mend of it would lower
  abbrev pub Loaded : Type 0
  Loaded = (t : Time) (s : S) → Proper t → m.standing t s → EachCertificate (λ rear front. Due t rear front → 0 < m.load s) s

  -- certificates have numbers below 64, and are of two vessels aboard
  abbrev pub Certified : Type 0
  Certified =
      (s : S) (i : ℕ) (rear front : Course) → m.certificate s i ≡ Some (rear, front) →
      (i < 64) × (m.roster s rear.number ≡ Some rear) × (m.roster s front.number ≡ Some front)

  -- a vessel aboard has the number that it is asked by, and a course in range
  abbrev pub Listed : Type 0
  Listed = (s : S) (n : ℕ) (c : Course) → m.roster s n ≡ Some c → Aboard n c

  -- the count is the roster's
  abbrev pub Counted : Type 0
  Counted = (s : S) → m.count s ≡ vessels (m.roster s)

  -- at most 64 vessels, and as many pairs as 64 have
  abbrev pub Bounded : Type 0
  Bounded = (s : S) → (m.count s ≤ 64) × (m.load s ≤ 2016)

  -- ---- refusals, each call's from the top

  -- of enter
  abbrev pub enter_refusal : S → Course → Option Refusal
  enter_refusal s c =
      topmost (
      NumberZero when nat_eq c.number 0 ∷
      OutOfRange when out_of_range c ∷
      AlreadyAboard when is_some (m.roster s c.number) ∷
      Full when nat_le 64 (m.count s) ∷ [])

  -- of leave, and of questions on one vessel
  abbrev pub vessel_refusal : S → ℕ → Option Refusal
  vessel_refusal s n =
      topmost (
      NumberZero when nat_eq n 0 ∷
      UnknownVessel when not (is_some (m.roster s n)) ∷ [])

  -- of steer
  abbrev pub steer_refusal : S → Course → Option Refusal
  steer_refusal s c =
      topmost (
      NumberZero when nat_eq c.number 0 ∷
      OutOfRange when out_of_range c ∷
      UnknownVessel when not (is_some (m.roster s c.number)) ∷ [])

  -- of mend
  abbrev pub mend_refusal : Time → S → ℕ → Option Refusal
  mend_refusal t s i = topmost (NotDue when not (due t (m.certificate s i)) ∷ [])

  -- ---- what the calls do

  -- a certificate whose number is not named is as it was
  abbrev pub Named : S → S → List ℕ → Type 0
  Named s s' named = (i : ℕ) → among i named ≡ false → m.certificate s' i ≡ m.certificate s i

  -- at t the vessel n has been given a course, or taken out
  pub record Changed (t : Time) (s s' : S) (n : ℕ) (course : Option Course) (numbers : List ℕ) : Type 0 where
    pub there : m.roster s' n ≡ course
    pub others : (k : ℕ) → (k ≢ n) → m.roster s' k ≡ m.roster s k
    pub named : Named s s' numbers
    pub rests : Rests t s → Rests t s'

  -- at t the certificate i has been mended
  pub record Mend (t : Time) (s s' : S) (i : ℕ) (numbers : List ℕ) : Type 0 where
    pub roster : (n : ℕ) → m.roster s' n ≡ m.roster s n
    pub named : Named s s' numbers
    pub stands : m.standing t s → m.standing t s' × (m.load s' < m.load s)
    pub by : (rear front : Course) → m.certificate s i ≡ Some (rear, front) → m.mended rear front s s'

  -- nothing is left
  pub record Cleared (s' : S) : Type 0 where
    pub roster : (n : ℕ) → m.roster s' n ≡ None
    pub certificates : (i : ℕ) → m.certificate s' i ≡ None
    pub load : m.load s' ≡ 0
    pub stands : (t : Time) → Proper t → m.standing t s'

  -- the four changes: what was done, or why it was refused and that nothing changed
  abbrev pub Entered : Time → S → S → Course → Result Numbers Refusal → Type 0
  Entered t s s' c (Ok named) = (enter_refusal s c ≡ None) × Changed t s s' c.number (Some c) named
  Entered t s s' c (Err e) = (enter_refusal s c ≡ Some e) × (s' ≡ s)

  abbrev pub Left : Time → S → S → ℕ → Result Numbers Refusal → Type 0
  Left t s s' n (Ok named) = (vessel_refusal s n ≡ None) × Changed t s s' n None named
  Left t s s' n (Err e) = (vessel_refusal s n ≡ Some e) × (s' ≡ s)

  abbrev pub Steered : Time → S → S → Course → Result Numbers Refusal → Type 0
  Steered t s s' c (Ok named) = (steer_refusal s c ≡ None) × Changed t s s' c.number (Some c) named
  Steered t s s' c (Err e) = (steer_refusal s c ≡ Some e) × (s' ≡ s)

  abbrev pub Mended : Time → S → S → ℕ → Result Numbers Refusal → Type 0
  Mended t s s' i (Ok named) = (mend_refusal t s i ≡ None) × Mend t s s' i named
  Mended t s s' i (Err e) = (mend_refusal t s i ≡ Some e) × (s' ≡ s)
