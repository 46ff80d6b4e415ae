-- The text of each line, byte for byte, and what a call that writes a line does to a page.
use Rattle.std.specs.Prelude.{◌≡◌, ℕ, ◌<◌, ◌≤◌, cond, List, [], ◌∷◌, ◌++◌, length, map, reverse, drop, Ok, Err, Result, ◌==◌, codes, decimal}
use Rattle.std.specs.List.{flat_map}
use Rattle.fairway.specs.Stamps.{den}
use Rattle.fairway.specs.declared.course.Course.{Course}
use Rattle.fairway.specs.declared.stamp.Stamp.{Stamp}
use Rattle.lines.specs.declared.refusal.NoRoom.{NoRoom}

-- the fraction of an instant with a blank before it, as ` 1/2`; nothing where the instant is whole
abbrev pub fraction_text : Stamp → List ℕ
fraction_text s = cond (s.numerator == 0) [] (codes " " ++ (decimal s.numerator ++ (codes "/" ++ decimal (den s))))

-- an instant, as `4` or `4 1/2`
abbrev pub instant_text : Stamp → List ℕ
instant_text s = decimal s.seconds ++ fraction_text s

-- a vessel's number with a blank before it
abbrev pub vessel_text : ℕ → List ℕ
vessel_text n = codes " " ++ decimal n

-- the numbers of vessels, each with a blank before it
abbrev pub vessel_texts : List ℕ → List ℕ
vessel_texts ns = flat_map vessel_text ns

-- the line of an order: of an instant and the vessels' numbers from the front
abbrev pub order_line : Stamp → List ℕ → List ℕ
order_line s ns = instant_text s ++ (codes ":" ++ (vessel_texts ns ++ (10 ∷ [])))

-- the line of a stop: of a fault's number and a place
abbrev pub stop_line : ℕ → ℕ → List ℕ
stop_line number place = codes "stop " ++ (decimal number ++ (codes " at " ++ (decimal place ++ (10 ∷ []))))

-- the numbers from the front, of courses that stand from rear to front
abbrev pub from_front : List Course → List ℕ
from_front courses = reverse (map (λ c. c.number) courses)

-- A line that fits was written onto the front of the page, and its length answered. Where it does not fit, the page
-- is as it was.
abbrev pub Lined : List ℕ → List ℕ → List ℕ → Result ℕ NoRoom → Type 0
Lined line page page' (Ok n) = (length line ≤ length page) × (n ≡ length line) × (page' ≡ line ++ drop (length line) page)
Lined line page page' (Err refusal) = (length page < length line) × (page' ≡ page)

-- the refusal's number
abbrev pub refusal_number : NoRoom → ℕ
refusal_number refusal = 19
