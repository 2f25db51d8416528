mod Knowing
