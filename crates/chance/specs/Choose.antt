-- What depends on whether something holds.

-- the first, of the proof, where P holds, and otherwise the second
unfoldable pub choose : {P A : Type 0} → Dec P → (P → A) → A → A
choose (yes h) f y = f h
choose (no _) f y = y
