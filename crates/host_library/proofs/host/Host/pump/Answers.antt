use Rattle.std.proofs.Common.{◌≡◌, ◌∷◌, length, drop, ap, ◌∙◌, refl, arith}
use Rattle.circular_buffer.specs.Buffer.{Buffer}
use Rattle.zone_model.specs.declared.act.Act.{Act}
use Rattle.zone_model.specs.Places.{command_of}
use Rattle.host_library.proofs.Asked.{asked-event}
use Rattle.host_library.proofs.Rings.{oldest-asked}
use Rattle.host_library.proofs.Pumps.{answered-stands, failed-stands, answered-sends, failed-sends, answered-told}
use Rattle.host_library.proofs.host.Host.pump.Goals as goal

pub invariant_of-self-in-Ok : goal.invariant_of-self-in-Ok
invariant_of-self-in-Ok g c =
    let s = c.self.inside in
    let long : length c.settle.new.shadows ≡ s.shadows.len = omega (arith, c.settle.auto.shadows, c.deref_mut.ensures.len) in
    answered-stands _ _ _ _ s.geometry.fields s.ring.items s.ring.capacity c.pop_front.new.self c.in-Some.act s.shadows.len s.shadows.items c.deref_mut.result.now c.settle.new.shadows c.in-Ok.answer.0 c.in-Ok.answer.1 c.send.new.out
    c.self.invariant s.geometry.valid c.in-Some.ensures.value c.pop_front.ensures.items c.send.ensures.geometry c.in-Ok.ensures.gains c.in-Ok.ensures.answered c.deref_mut.ensures.value long c.settle.ensures.exact c.settle.ensures.shadows

pub invariant_of-self-in-Err : goal.invariant_of-self-in-Err
invariant_of-self-in-Err g c =
    let s = c.self.inside in
    let long : length c.forget.new.shadows ≡ s.shadows.len = omega (arith, c.forget.auto.shadows, c.deref_mut-in-Err.ensures.len) in
    let popped : c.pop_front.new.self.items ≡ drop 1 s.ring.items = ap (λ (b : Buffer Act). b.items) c.pop_front.ensures.items in
    let room : c.put_back.new.ring.capacity ≡ s.ring.capacity = c.put_back.ensures.capacity ∙ ap (λ (b : Buffer Act). b.capacity) c.pop_front.ensures.items in
    let back : c.put_back.new.ring.items ≡ c.in-Some.act ∷ drop 1 s.ring.items = rw (c.put_back.ensures.items, c.in-Err.ensures.back, popped) refl in
    failed-stands _ _ _ _ s.geometry.fields s.ring.items c.put_back.new.ring.items s.ring.capacity c.put_back.new.ring.capacity c.in-Some.act s.shadows.len s.shadows.items c.deref_mut-in-Err.result.now c.forget.new.shadows
    c.self.invariant s.geometry.valid c.in-Some.ensures.value back room c.send.ensures.geometry c.in-Err.ensures.may_gain c.deref_mut-in-Err.ensures.value long c.forget.ensures.exact c.forget.ensures.shadows

pub returns-in-Ok-clause-sends : goal.returns-in-Ok-clause-sends
returns-in-Ok-clause-sends g c some =
    let s = c.self.inside in
    let long : length c.settle.new.shadows ≡ s.shadows.len = omega (arith, c.settle.auto.shadows, c.deref_mut.ensures.len) in
    let popped : c.pop_front.new.self.items ≡ drop 1 s.ring.items = ap (λ (b : Buffer Act). b.items) c.pop_front.ensures.items in
    answered-sends _ c.args.self.now (record { link = s.link; geometry = s.geometry.fields; ring = s.ring.items; next = s.next; shadows = s.shadows.items }) c.send.new.self c.pop_front.new.self.items c.in-Some.act s.shadows.len c.deref_mut.result.now c.settle.new.shadows c.in-Ok.answer c.settle.result c.send.new.out
    c.self.view_is (oldest-asked s.geometry.fields s.ring.items c.in-Some.act c.in-Some.ensures.value c.self.invariant.asked) c.in-Some.ensures.value popped (rw (← c.self.view_is) c.in-Ok.ensures.step) c.settle.ensures.verdict c.deref_mut.ensures.value long c.settle.ensures.exact

pub returns-in-Err-clause-sends : goal.returns-in-Err-clause-sends
returns-in-Err-clause-sends g c some =
    let s = c.self.inside in
    let long : length c.forget.new.shadows ≡ s.shadows.len = omega (arith, c.forget.auto.shadows, c.deref_mut-in-Err.ensures.len) in
    let popped : c.pop_front.new.self.items ≡ drop 1 s.ring.items = ap (λ (b : Buffer Act). b.items) c.pop_front.ensures.items in
    let back : c.put_back.new.ring.items ≡ c.in-Some.act ∷ drop 1 s.ring.items = rw (c.put_back.ensures.items, c.in-Err.ensures.back, popped) refl in
    failed-sends _ c.args.self.now (record { link = s.link; geometry = s.geometry.fields; ring = s.ring.items; next = s.next; shadows = s.shadows.items }) c.send.new.self c.put_back.new.ring.items c.in-Some.act s.shadows.len c.deref_mut-in-Err.result.now c.forget.new.shadows c.in-Err.payload c.send.new.out
    c.self.view_is (oldest-asked s.geometry.fields s.ring.items c.in-Some.act c.in-Some.ensures.value c.self.invariant.asked) c.in-Some.ensures.value back (rw (← c.self.view_is) c.in-Err.ensures.step) c.deref_mut-in-Err.ensures.value long c.forget.ensures.exact

pub returns-in-Ok-clause-told : goal.returns-in-Ok-clause-told
returns-in-Ok-clause-told g c = rw (← c.self.view_is) (λ acts told act rest begins good.
    let s = c.self.inside in
    answered-told _ s.geometry.fields _ _ acts s.ring.items c.in-Some.act act rest c.in-Ok.answer c.settle.result c.send.new.out c.self.invariant.geometry c.self.invariant.asked c.in-Some.ensures.value told begins c.in-Ok.ensures.gains c.in-Ok.ensures.answered c.settle.ensures.verdict)

pub returns-in-Ok-clause-no_fault : goal.returns-in-Ok-clause-no_fault
returns-in-Ok-clause-no_fault g c = rw (← c.self.view_is) (λ sure.
    let s = c.self.inside in
    let asked = oldest-asked s.geometry.fields s.ring.items c.in-Some.act c.in-Some.ensures.value c.self.invariant.asked in
    (c.send.ensures.surely sure (asked-event s.geometry.fields (command_of c.in-Some.act) asked.kind)).1)

pub returns-in-Err-clause-no_fault : goal.returns-in-Err-clause-no_fault
returns-in-Err-clause-no_fault g c = rw (← c.self.view_is) (λ sure.
    let s = c.self.inside in
    let asked = oldest-asked s.geometry.fields s.ring.items c.in-Some.act c.in-Some.ensures.value c.self.invariant.asked in
    (c.send.ensures.surely sure (asked-event s.geometry.fields (command_of c.in-Some.act) asked.kind)).1)

pub returns-in-Err-clause-surely : goal.returns-in-Err-clause-surely
returns-in-Err-clause-surely g c = rw (← c.self.view_is) (λ sure.
    let s = c.self.inside in
    let asked = oldest-asked s.geometry.fields s.ring.items c.in-Some.act c.in-Some.ensures.value c.self.invariant.asked in
    let fine = (c.in-Err.ensures.surely sure (asked-event s.geometry.fields (command_of c.in-Some.act) asked.kind)).0 in
    absurd cc)
