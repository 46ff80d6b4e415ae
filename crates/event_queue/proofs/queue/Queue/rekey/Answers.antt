use Rattle.event_queue.proofs.queue.Queue.rekey.Goals as goal

pub returns-clause-keeps : goal.returns-clause-keeps
returns-clause-keeps g c = g.Self.Queue.means.keeps_on c.args.self.now c.drop.new.self c.put.new.self c.in_ok-drop.ensures.keeps c.put.ensures.keeps
