-- No call takes a sheet's soundness away, or changes how many lines there are.
use Rattle.std.proofs.Common.{◌≡◌, ℕ, Some, None, Ok, Err, sym, ap, subst}
use Rattle.event_queue.specs.Queues.{Meaning}
use Rattle.call_sheet.specs.Sheets.{Does}
use Rattle.call_sheet.specs.declared.call.Event.{Event}
use Rattle.call_sheet.specs.declared.call.Event.TheVariants.{OnAwait, OnHeard, OnOverdue}

pub sound_stays : {Q : Type 0} (m : Meaning Q ℕ) (q q' : Q) (e : Event) → Does m q q' e → m.sound q → m.sound q'
sound_stays m q q' (OnAwait line second (Ok _)) d s = (d.1 s).sound
sound_stays m q q' (OnAwait line second (Err e)) d s = subst m.sound (sym d.0) s
sound_stays m q q' (OnHeard line (Ok there)) d s = (d.1 s).1.sound
sound_stays m q q' (OnHeard line (Err e)) d s = subst m.sound (sym d.0) s
sound_stays m q q' (OnOverdue given (Some hail)) d s = (d s).after.sound
sound_stays m q q' (OnOverdue given None) d s = (d s).1.sound

pub capacity_stays : {Q : Type 0} (m : Meaning Q ℕ) (q q' : Q) (e : Event) → Does m q q' e → m.sound q → m.capacity q' ≡ m.capacity q
capacity_stays m q q' (OnAwait line second (Ok _)) d s = (d.1 s).capacity
capacity_stays m q q' (OnAwait line second (Err e)) d s = ap m.capacity d.0
capacity_stays m q q' (OnHeard line (Ok there)) d s = (d.1 s).1.capacity
capacity_stays m q q' (OnHeard line (Err e)) d s = ap m.capacity d.0
capacity_stays m q q' (OnOverdue given (Some hail)) d s = (d s).after.capacity
capacity_stays m q q' (OnOverdue given None) d s = (d s).1.capacity
