-- The laws of texts that are put onto a page.
use Rattle.std.proofs.Common.{◌≡◌, ℕ, ◌≤◌, List, ◌++◌, take, drop, sym, ap, ◌∙◌, subst, arith, append_assoc, length-append, take-take}
use Rattle.lines.specs.Puts.{Put}

-- a text put before another one makes one text of the two
pub puts : {a b page mid page' : List ℕ} {end middle start : ℕ} → Put b page mid end middle → Put a mid page' middle start → Put (a ++ b) page page' end start
puts {a} {b} {page} {mid} {page'} {end} {middle} {start} q p =
    let less : start ≤ middle = omega (arith, p.ends) in record {
      ends = omega (arith, length-append a b, p.ends, q.ends);
      written = p.written ∙ ap (λ r. a ++ r) q.written ∙ sym (append_assoc a b (drop end page));
      before = p.before ∙ sym (take-take start middle mid less) ∙ ap (take start) q.before ∙ take-take start middle page less;
    }

-- the same text, written otherwise
pub same : {a b page page' : List ℕ} {end start : ℕ} → a ≡ b → Put a page page' end start → Put b page page' end start
same {a} {b} {page} {page'} {end} {start} e p = subst (λ (t : List ℕ). Put t page page' end start) e p
