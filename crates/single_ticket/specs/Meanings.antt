-- What a single ticket means as an event queue.
use Rattle.std.specs.Prelude.{◌≡◌, ℕ, zero, suc, ◌≤◌, None, Option, refl}
use Rattle.std.proofs.Common.{arith}
use Rattle.event_queue.specs.Queues.{Meaning, Empty}
use Rattle.single_ticket.specs.declared.SingleTicket.{SingleTicket}

-- the key of the ticket 0; no other number holds one
abbrev pub key_under : {K : Type 0} → Option K → ℕ → Option K
key_under key zero = key
key_under key (suc n) = None

pub past_one : {K : Type 0} (key : Option K) (n : ℕ) → 1 ≤ n → key_under key n ≡ None
past_one key zero h = absurd (omega arith)
past_one key (suc n) h = refl

-- a single ticket is sound whatever it holds, and its memory is its own
abbrev pub single_meaning : {K : Type 0} → Meaning (SingleTicket K) K
single_meaning = record {
  sound = λ q. Unit {0};
  capacity = λ q. 1;
  held = λ q n. key_under q.key n;
  keeps = λ q r. Unit {0};
  bounded = λ q s. omega arith;
  within = λ q s n h. past_one q.key n h;
  keeps_itself = λ q. tt;
  keeps_on = λ a b c f g. tt;
}

-- where the number 0 holds no key, none does
pub none_under : {K : Type 0} (n : ℕ) → ◌≡◌ {A = Option K} (key_under None n) None
none_under zero = refl
none_under (suc n) = refl

-- with no key under the number 0 it is empty
pub none_held : {K : Type 0} → Empty (single_meaning {K = K}) (record { key = None })
none_held = record { sound = tt; none = none_under }
