-- The laws of a key kind, and what follows for tickets that may hold no key.
use Rattle.std.proofs.Common.{◌≡◌, Bool, true, false, Some, None, Option, refl, ⊎_elim}
use Rattle.std.proofs.lemmas.Bool.{cases_Bool, both_ways, false≢true}
use Rattle.event_queue.specs.Orders.{sooner}

-- the two laws of a key kind
pub record Total {K : Type 0} (before : K → K → Bool) : Type 0 where
  pub asymmetric : (a b : K) → before a b ≡ true → before b a ≡ false
  pub carries : (a b c : K) → before b a ≡ false → before c b ≡ false → before c a ≡ false

module _ {K : Type 0} (before : K → K → Bool) (o : Total before) where
  pub sooner_asymmetric : (a b : Option K) → sooner before a b ≡ true → sooner before b a ≡ false
  sooner_asymmetric (Some a) (Some b) e = o.asymmetric a b e
  sooner_asymmetric (Some a) None e = refl
  sooner_asymmetric None b e = absurd (false≢true e)

  pub sooner_carries : (a b c : Option K) → sooner before b a ≡ false → sooner before c b ≡ false → sooner before c a ≡ false
  sooner_carries (Some a) (Some b) (Some c) e f = o.carries a b c e f
  sooner_carries (Some a) None (Some c) e f = absurd (both_ways true f refl)
  sooner_carries None (Some b) c e f = absurd (both_ways true e refl)
  sooner_carries None None c e f = f
  sooner_carries (Some a) b None e f = refl

  pub sooner_itself : (a : Option K) → sooner before a a ≡ false
  sooner_itself a = ⊎_elim (λ e. sooner_asymmetric a a e) (λ e. e) (cases_Bool (sooner before a a))

  -- a limit that is before a key is before each that the key is not after
  pub all_later : (limit first key : K) → before limit first ≡ true → before key first ≡ false → before limit key ≡ true
  all_later limit first key l h = ⊎_elim (λ e. e) (λ e. absurd (both_ways (before limit first) (o.carries first key limit h e) l)) (cases_Bool (before limit key))
