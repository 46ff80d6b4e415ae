-- What the bytes of a script say.
use Rattle.std.specs.Prelude.{ℕ, ◌+◌, ◌-◌, ◌*◌, ◌^◌, Bool, true, false, cond, not, ◌&&◌, ◌||◌, List, [], ◌∷◌, Some, None, Ok, Err, codes, Option, Result, ◌==◌, nat_le, nat_lt}
use Rattle.std.specs.List.{onto_first}
use Rattle.call_sheet.specs.declared.call.Call.{Call}
use Rattle.call_sheet.specs.declared.call.Call.TheVariants.{Await, Heard, Overdue}
use Rattle.radio_watch.specs.declared.entry.Unreadable.{Unreadable}
use Rattle.radio_watch.specs.declared.script.NotACommand.{NotACommand}

-- what a script asks for, line by line: a call, or a line that cannot be read
abbrev pub Item : Type 0
Item = Result Call Unreadable

-- the call that some words ask for
abbrev pub Asked : Type 0
Asked = Result Call NotACommand

-- what one line says: a call, nothing where it is blank or a comment, or that it cannot be read
abbrev pub Reading : Type 0
Reading = Result (Option Call) NotACommand

-- the lines of a text: each ends before a line feed, and the last one where the text ends
abbrev pub lines : List ℕ → List (List ℕ)
lines [] = []
lines (b ∷ bs) = cond (b == 10) ([] ∷ lines bs) (onto_first b (lines bs))

-- space, tab and carriage return
abbrev pub blank : ℕ → Bool
blank b = b == 32 || b == 9 || b == 13

-- whether a word stands at the start
abbrev pub at_word : List ℕ → Bool
at_word [] = false
at_word (b ∷ bs) = not (blank b)

-- the words of a line: its longest parts that have no blank
abbrev pub words : List ℕ → List (List ℕ)
words [] = []
words (b ∷ bs) = cond (blank b) (words bs) (cond (at_word bs) (onto_first b (words bs)) ((b ∷ []) ∷ words bs))

-- the number that digits write, after those that wrote n; none where a byte is no digit
abbrev pub value_from : ℕ → List ℕ → Option ℕ
value_from n [] = Some n
value_from n (b ∷ bs) = cond (nat_le 48 b && nat_le b 57) (value_from (10 * n + (b - 48)) bs) None

-- a number that fits 32 bits
abbrev pub fitting : Option ℕ → Option ℕ
fitting None = None
fitting (Some n) = cond (nat_lt n (2 ^ 32)) (Some n) None

-- the number that a word writes: one digit or more, and nothing else
abbrev pub number : List ℕ → Option ℕ
number [] = None
number (b ∷ bs) = fitting (value_from 0 (b ∷ bs))

abbrev pub same_bytes : List ℕ → List ℕ → Bool
same_bytes [] [] = true
same_bytes [] (y ∷ ys) = false
same_bytes (x ∷ xs) [] = false
same_bytes (x ∷ xs) (y ∷ ys) = x == y && same_bytes xs ys

-- a call from the numbers that follow its name
abbrev pub one_number : (ℕ → Call) → Option ℕ → Asked
one_number call (Some n) = Ok (call n)
one_number call None = Err record {}

abbrev pub two_numbers : (ℕ → ℕ → Call) → Option ℕ → Option ℕ → Asked
two_numbers call (Some m) (Some n) = Ok (call m n)
two_numbers call (Some m) None = Err record {}
two_numbers call None n = Err record {}

-- `heard LINE` and `overdue SECOND`
abbrev pub of_two : List ℕ → List ℕ → Asked
of_two name a = cond (same_bytes name (codes "heard")) (one_number Heard (number a)) (cond (same_bytes name (codes "overdue")) (one_number Overdue (number a)) (Err record {}))

-- `await LINE SECOND`
abbrev pub of_three : List ℕ → List ℕ → List ℕ → Asked
of_three name a b = cond (same_bytes name (codes "await")) (two_numbers Await (number a) (number b)) (Err record {})

-- what a line with a name says: the call that its words ask for, or that it cannot be read
abbrev pub asking : Asked → Reading
asking (Ok call) = Ok (Some call)
asking (Err unknown) = Err unknown

-- what words that are no comment say
abbrev pub command : List (List ℕ) → Reading
command [] = Ok None
command (name ∷ []) = Err record {}
command (name ∷ a ∷ []) = asking (of_two name a)
command (name ∷ a ∷ b ∷ []) = asking (of_three name a b)
command (name ∷ a ∷ b ∷ c ∷ rest) = Err record {}

-- a comment begins with #
abbrev pub hash : List ℕ → Bool
hash [] = false
hash (b ∷ bs) = b == 35

abbrev pub comment : List (List ℕ) → Bool
comment [] = false
comment (word ∷ more) = hash word

-- what a line says
abbrev pub reading : List ℕ → Reading
reading line = cond (comment (words line)) (Ok None) (command (words line))

-- what is asked for by the line of this number, and by those after it
abbrev pub item : ℕ → Reading → List Item → List Item
item n (Ok None) after = after
item n (Ok (Some call)) after = Ok call ∷ after
item n (Err unknown) after = Err record { number = n } ∷ after

abbrev pub items_from : ℕ → List (List ℕ) → List Item
items_from n [] = []
items_from n (line ∷ more) = item n (reading line) (items_from (n + 1) more)

-- what a script asks for
abbrev pub items : List ℕ → List Item
items script = items_from 1 (lines script)
