mod ShiftCase
